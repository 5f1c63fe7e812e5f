use Rattle.std.proofs.Common.{not, drop, ◌∙◌, rules, arith}
use Rattle.std.proofs.lemmas.Iterator.{YieldsList-from_slice}
use Rattle.std.proofs.lemmas.Iterator.Consumers.{YieldsList-from_filter, count_from_yields_List}
use borrow.Author.Tests.{tests}
use Rattle.journal_log.specs.View.{view}
use Rattle.journal_log.specs.Updates.{settled, has_home}
use Rattle.journal_log.proofs.Adding.{fresh_counted}
use Rattle.journal_log.proofs.state.Log.last_with.Goals as goal

pub returns : goal.returns
returns c =
    let l = view c.args.self.now in
    let us = drop (settled l) l.updates in
    let n = count_from_yields_List _ _ c.count.ensures.ran (YieldsList-from_filter _ (λ b. not (has_home us b)) (YieldsList-from_slice c.args.blocks.now (cc)) c.filter.ensures.closure (λ b x q k. search (rules, tests))) ∙ fresh_counted c.args.blocks.now us in
    omega arith
