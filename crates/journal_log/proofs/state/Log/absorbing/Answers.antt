use Rattle.std.proofs.Common.{◌≡◌, ◌≢◌, rules}
use Rattle.std.proofs.lemmas.Iterator.{first_from_Range}
use borrow.Author.Tests.{tests}
use Rattle.journal_log.specs.Ring.{row_at}
use Rattle.journal_log.proofs.Adding.{absorbing_found}
use Rattle.journal_log.proofs.state.Log.absorbing.Goals as goal

pub returns : goal.returns
returns c =
    let l = c.args.self.now in
    let b = c.args.home in
    absorbing_found l b c.find.result
    (rw c.unsettled.ensures at (first_from_Range _ _ _ c.find.result (λ p. (row_at l.ring.rows p).home ≡ b) (λ p. (row_at l.ring.rows p).home ≢ b) c.find.ensures.ran (λ p q k. search (rules, tests)) (λ p q k. search (rules, tests))))
