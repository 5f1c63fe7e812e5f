use Rattle.std.proofs.Common.{set, sym, ap, ◌∙◌, rules}
use Rattle.operation.specs.Held.{blank}
use Rattle.operation.proofs.Padding.{put_view, put_filled}
use Rattle.operation.proofs.Tables.{held_first, held_last, place_told, at_found, room_left}
use Rattle.operation.proofs.table.Table.overwrite.Goals as goal

-- whichever place of those held is written, the table stays padded
pub invariant_of-self : goal.invariant_of-self
invariant_of-self c =
    let p = place_told c.args.self.now _ c.entries.ensures.objects c.args.held _ _ c.place.ensures c.position.ensures ∙ c.in-Some.is in
    let there = (at_found c.args.self.now c.self.inside.held c.self.inside.len c.self.invariant c.self.view_is c.args.held.place c.in-Some.i p c.args.held).0 in
    search (rules, put_filled)

pub add-requires : goal.add-requires
add-requires c =
    let hs = c.args.self.now in
    let p = place_told hs _ c.entries.ensures.objects c.args.held _ _ c.place.ensures c.position.ensures ∙ c.in-None.is in
    room_left hs c.args.held.place (held_last c.args.held hs p).0 c.requires

pub returns-in-Some : goal.returns-in-Some
returns-in-Some c =
    let hs = c.args.self.now in
    let t = c.self.inside in
    let h = c.args.held in
    let p = place_told hs _ c.entries.ensures.objects h _ _ c.place.ensures c.position.ensures ∙ c.in-Some.is in
    let there = (at_found hs t.held t.len c.self.invariant c.self.view_is h.place c.in-Some.i p h).0 in
    put_view 8 blank t.len t.held c.self.invariant c.in-Some.i h there ∙ ap (λ xs. set xs c.in-Some.i h) c.self.view_is ∙ sym (held_first h hs c.in-Some.i p).1

pub returns-in-None : goal.returns-in-None
returns-in-None c =
    let p = place_told c.args.self.now _ c.entries.ensures.objects c.args.held _ _ c.place.ensures c.position.ensures ∙ c.in-None.is in
    c.add.ensures ∙ sym (held_last c.args.held c.args.self.now p).1
