use Rattle.std.proofs.Common.{◌≡◌, Some, ap, ◌∙◌, rules}
use Rattle.std.specs.Option.{option_map}
use Rattle.model.specs.Journal.{opening}
use Rattle.list_card.proofs.Homes.{found_listed}
use Rattle.list_card.proofs.lists.open.Goals as goal

pub returns-clause-found : goal.returns-clause-found
returns-clause-found g c =
    let d = g.D.Disk.blocks c.args.journal.now.disk in
    let s = c.open.new.self.state in
    let ok = c.in_ok-open.ensures.answer ∙ ap (λ v. (opening v d).answer) c.requires in
    let seen = c.open.ensures.state ∙ ap (λ v. (opening v d).state) c.requires in
    let l = c.in_ok-log.log.now in
    let in-s : Some l ≡ option_map (λ o. o.log) s = search rules in
    found_listed d c.in_ok-open.field-0 ok s seen c.live_homes.result l in-s c.live_homes.ensures
