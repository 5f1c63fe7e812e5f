use Rattle.std.proofs.Common.{◌≡◌, ◌≢◌, rules}
use borrow.Author.Tests.{tests}
use Rattle.journal_log.specs.Ring.{row_at}
use Rattle.journal_log.proofs.Newest.{last_from_Range, newest_told}
use Rattle.journal_log.proofs.state.Log.newest_position.Goals as goal

pub returns : goal.returns
returns c =
    let l = c.args.self.now in
    let b = c.args.home in
    newest_told l b c.rfind.result
    (last_from_Range _ (λ p. (row_at l.ring.rows p).home ≡ b) (λ p. (row_at l.ring.rows p).home ≢ b) (λ p q k. search (rules, tests)) (λ p q k. search (rules, tests)) _ _ c.rfind.result c.rfind.ensures.ran)
