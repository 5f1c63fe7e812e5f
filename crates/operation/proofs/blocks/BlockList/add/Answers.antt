use Rattle.std.proofs.Common.{◌≡◌, ℕ, ◌<◌, Bool, true, false, List, [], ◌∷◌, ◌++◌, length, sym, ap, refl, ◌∙◌, arith}
use Rattle.std.specs.List.{list_any}
use Rattle.std.proofs.Common.{eqb}
use Rattle.object.specs.Tables.{Held}
use Rattle.object.specs.declared.Place.{Place}
use Rattle.model.specs.Operations.{among}
use Rattle.operation.proofs.Padding.{push_view}
use Rattle.operation.proofs.Tables.{among_any}
use Rattle.operation.proofs.blocks.BlockList.add.Goals.{else-is_dirty-via-then-is_dirty+else-not-contains, else-is_dirty-via-else-is_dirty}
use Rattle.operation.proofs.blocks.BlockList.add.Goals as goal

-- what a search for the object's block tells
listed : (h : Held) (o : Place) → o ≡ h.place → (bs xs : List ℕ) → xs ≡ bs → (t : Bool) → t ≡ list_any (λ c. eqb c o.block) xs → among h.place.block bs ≡ t
listed h o e bs xs is t f = among_any h.place.block bs ∙ sym (f ∙ ap (list_any (λ c. eqb c o.block)) is ∙ ap (λ (q : Place). list_any (λ c. eqb c q.block) bs) e)

pub returns-then-not-contains : goal.returns-then-not-contains
returns-then-not-contains c =
    let bs = c.args.self.now in
    let h = c.args.held.now in
    let l = c.self.inside in
    let n : l.len < 8 = (let e = ap length c.self.view_is in let f = c.self.invariant.count in let r = c.requires in omega arith) in
    rw (sym c.is_dirty.ensures ∙ c.if-is_dirty.true, listed h _ c.place-block.ensures bs _ c.as_slice.ensures.value false c.if-not-contains.ensures.value)
    (push_view 8 0 l.len l.blocks c.self.invariant _ n ∙ ap (λ xs. xs ++ c.place-block.result.block ∷ []) c.self.view_is ∙ ap (λ (o : Place). bs ++ o.block ∷ []) c.place-block.ensures)

pub returns-else-is_dirty : goal.returns-else-is_dirty
returns-else-is_dirty c =
    let bs = c.args.self.now in
    let h = c.args.held.now in
    elim c.else-is_dirty.branch [
      | else-is_dirty-via-then-is_dirty+else-not-contains w ↦
          rw (sym c.is_dirty.ensures ∙ w.if-is_dirty.true, listed h _ c.place-block.ensures bs _ w.as_slice.ensures.value true w.if-not-contains.ensures.value) refl
      | else-is_dirty-via-else-is_dirty w ↦ rw (sym c.is_dirty.ensures ∙ w.if-is_dirty.false) refl
    ]
