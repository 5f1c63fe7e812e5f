-- The updates of a commit, made ready one block after another.
use Rattle.std.proofs.Common.{◌≡◌, ℕ, ◌+◌, ◌<◌, ◌≤◌, List, [], ◌∷◌, ◌++◌, map, length, get_or, take, drop, Ok, Err, sym, ap, ◌∙◌, arith}
use Rattle.std.proofs.lemmas.List.{length-map, length-take, map_more, drop_more, drop_all, take_all}
use Rattle.disk.specs.Tests.{first_of}
use Rattle.disk.specs.Meaning.{Blocks}
use Rattle.object.specs.Tables.{Held}
use Rattle.card.specs.declared.Update.{Update}
use Rattle.model.specs.declared.Fault.{Fault}
use Rattle.model.specs.Log.{Log}
use Rattle.model.specs.Operations.{bytes_tests}
use Rattle.model.specs.Outcomes.{value_unless}
use Rattle.model.proofs.Tests.{goes_on, halts}
use Rattle.journal_log.specs.Updates.{update_for}

-- vs are the updates of the first i of the blocks, none of which is dead
pub record Ready (l : Log) (d : Blocks) (hs : List Held) (bs : List ℕ) (i : ℕ) (vs : List Update) : Type 0 where
  pub updates : vs ≡ map (update_for hs d l.updates) (take i bs)
  pub tests : first_of (bytes_tests l d bs) ≡ first_of (bytes_tests l d (drop i bs))

module _ {l : Log} {d : Blocks} {hs : List Held} {bs : List ℕ} {i : ℕ} {vs : List Update} (r : Ready l d hs bs i vs) where
  abbrev new : ℕ → Update
  new = update_for hs d l.updates

  abbrev here : List ℕ
  here = get_or bs i 0 ∷ []

  pub ready_fewer : i < length bs → length vs < length bs
  ready_fewer m = let n = length-map (take i bs) new in let k = length-take i bs in omega (arith, ap length r.updates)

  module _ (m : i < length bs) where
    next_test : first_of (bytes_tests l d bs) ≡ first_of (bytes_tests l d here ++ bytes_tests l d (drop (i + 1) bs))
    next_test = r.tests ∙ ap (λ cs. first_of (bytes_tests l d cs)) (drop_more bs i 0 m)

    -- the next block is dead
    pub ready_stops : {Y : Type 0} (y : Y) (f : Fault) → Err f ≡ value_unless (first_of (bytes_tests l d here)) (new (get_or bs i 0)) → Err f ≡ value_unless (first_of (bytes_tests l d bs)) y
    ready_stops y f e = halts (bytes_tests l d bs) (bytes_tests l d here) (bytes_tests l d (drop (i + 1) bs)) (new (get_or bs i 0)) next_test y f e

    -- its update comes after those that are ready
    pub ready_more : (u : Update) (ws : List Update) → Ok u ≡ value_unless (first_of (bytes_tests l d here)) (new (get_or bs i 0)) → ws ≡ vs ++ u ∷ [] → Ready l d hs bs (i + 1) ws
    ready_more u ws e is =
        let g = goes_on (bytes_tests l d bs) (bytes_tests l d here) (bytes_tests l d (drop (i + 1) bs)) (new (get_or bs i 0)) next_test u e in
        record { updates = is ∙ ap (λ xs. xs ++ u ∷ []) r.updates ∙ ap (λ x. map new (take i bs) ++ x ∷ []) g.1 ∙ sym (map_more new bs i 0 m); tests = g.0 }

  pub ready_all : length bs ≤ i → Ok vs ≡ value_unless (first_of (bytes_tests l d bs)) (map new bs)
  ready_all m =
      ap Ok (r.updates ∙ ap (map new) (take_all i bs m)) ∙
      sym (ap (λ o. value_unless o (map new bs)) (r.tests ∙ ap (λ cs. first_of (bytes_tests l d cs)) (drop_all i bs m)))
