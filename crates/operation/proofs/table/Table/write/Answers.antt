use Rattle.std.proofs.Common.{ℕ, true, List, ◌∷◌, ◌++◌, [], set, sym, refl, ap, subst, ◌∙◌}
use Rattle.object.specs.declared.Place.{Place}
use Rattle.object.specs.Tables.{Held}
use Rattle.operation.specs.Held.{blank, IsValue}
use Rattle.operation.proofs.Padding.{put_view, put_filled}
use Rattle.operation.proofs.Tables.{held_first, held_last, place_told, at_found, room_left}
use Rattle.operation.proofs.table.Table.write.Goals as goal

-- the object with its new bytes
abbrev written : Place → List ℕ → Held
written o v = record { place = o; bytes = v; dirty = true }

pub replace-requires : goal.replace-requires
replace-requires c =
    let o = c.args.spot.place in
    let h = written o c.args.value.now in
    let p = place_told c.args.self.now _ c.entries.ensures.objects h _ _ refl c.position.ensures ∙ c.in-Some.is in
    let a = at_found c.args.self.now c.self.inside.held c.self.inside.len c.self.invariant c.self.view_is o c.in-Some.i p c.index-self-i.result in
    subst (λ (q : Place). IsValue q c.args.value.now) (sym a.1) c.requires.value

pub invariant_of-self : goal.invariant_of-self
invariant_of-self c =
    let h = written c.args.spot.place c.args.value.now in
    let t = c.self.inside in
    let p = place_told c.args.self.now _ c.entries.ensures.objects h _ _ refl c.position.ensures ∙ c.in-Some.is in
    let a = at_found c.args.self.now t.held t.len c.self.invariant c.self.view_is h.place c.in-Some.i p h in
    put_filled 8 blank t.len t.held c.self.invariant c.in-Some.i c.replace.new.self a.0

pub add-requires : goal.add-requires
add-requires c =
    let hs = c.args.self.now in
    let h = written c.args.spot.place c.args.value.now in
    let p = place_told hs _ c.entries.ensures.objects h _ _ refl c.position.ensures ∙ c.in-None.is in
    room_left hs h.place (held_last h hs p).0 c.requires.room

pub returns-in-Some : goal.returns-in-Some
returns-in-Some c =
    let hs = c.args.self.now in
    let t = c.self.inside in
    let h = written c.args.spot.place c.args.value.now in
    let i = c.in-Some.i in
    let p = place_told hs _ c.entries.ensures.objects h _ _ refl c.position.ensures ∙ c.in-Some.is in
    let a = at_found hs t.held t.len c.self.invariant c.self.view_is h.place i p c.index-self-i.result in
    put_view 8 blank t.len t.held c.self.invariant i c.replace.new.self a.0 ∙
    ap (λ xs. set xs i c.replace.new.self) c.self.view_is ∙
    ap (set hs i) (c.replace.ensures ∙ ap (λ (q : Place). written q c.args.value.now) a.1) ∙
    sym (held_first h hs i p).1

pub returns-in-None : goal.returns-in-None
returns-in-None c =
    let hs = c.args.self.now in
    let h = written c.args.spot.place c.args.value.now in
    let p = place_told hs _ c.entries.ensures.objects h _ _ refl c.position.ensures ∙ c.in-None.is in
    c.add.ensures ∙ ap (λ g. hs ++ g ∷ []) c.written.ensures ∙ sym (held_last h hs p).1
