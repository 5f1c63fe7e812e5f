-- A table's clashes, and what of it is dirty.
use Rattle.std.proofs.Common.{◌≡◌, true, false, ◌⊎◌, [], ◌∷◌, refl, inl, inr, ⊎_elim, arith}
use Rattle.std.proofs.lemmas.Bool.{cases_Bool, eq-eqb, false≢true}
use Rattle.std.proofs.lemmas.Bool.Decides.{nat_tests}
use Rattle.object.specs.declared.Place.{Place}
use Rattle.object.specs.Objects.{same, overlap}
use Rattle.object.specs.Tables.{clashes}
use Rattle.object.specs.Laws.{Placed, NoClash, Clash, DirtyOnly}
use Rattle.object.proofs.Tables.{same_place}
use Rattle.object.proofs.Apart.{apart}

-- one of the same size
same_or_aside : (o p : Place) → Placed o → Placed p → o.size ≡ p.size → (o ≡ p) ⊎ (overlap o p ≡ false)
same_or_aside o p a b e = ⊎_elim (λ s. inl ((same_place o p).0 s)) (λ n. inr (apart o p a b e n)) (cases_Bool (same o p))

pub no_clash : NoClash
no_clash [] o p all n = tt
no_clash (h ∷ hs) o p (a, all) n =
    let rest : clashes hs o ≡ false = grind (arith, nat_tests) in (
      ⊎_elim
          (λ (over : overlap h.place o ≡ true). let s : h.place.size ≡ o.size = grind (arith, nat_tests) in same_or_aside h.place o a p s)
          inr
          (cases_Bool (overlap h.place o)),
      no_clash hs o p all rest,
    )

pub clash : Clash
clash [] o c all = false≢true c
clash (h ∷ hs) o c (a, all) = clash hs o (⊎_elim
    (λ (over : overlap h.place o ≡ true). rw (over, eq-eqb h.place.size o.size (a over)) at c)
    (λ (aside : overlap h.place o ≡ false). rw aside at c)
    (cases_Bool (overlap h.place o))) all

pub dirty_only : DirtyOnly
dirty_only hs = refl
