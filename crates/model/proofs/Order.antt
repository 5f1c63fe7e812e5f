-- The refusals of format and of opening, in order.
use Rattle.std.proofs.Common.{◌≡◌, ℕ, ◌≤◌, cond, List, [], ◌∷◌, ◌++◌, map, Some, refl, ap, ◌∙◌}
use Rattle.std.specs.List.{AllByRecursion}
use Rattle.std.proofs.lemmas.List.{map-append}
use Rattle.std.proofs.lemmas.Bool.{le-ltb}
use Rattle.disk.specs.declared.fault.Layer.TheVariants as layers
use Rattle.disk.specs.Meaning.{Blocks}
use Rattle.card.specs.Layout.{homes_from, log_block, live_positions}
use Rattle.model.specs.Log.{Log, card_tests, range_test, life_test}
use Rattle.model.specs.Outcomes.{decided, within}
use Rattle.model.specs.Operations.{dirty_blocks, bytes_tests}
use Rattle.model.specs.Calls.{Call, begins, reads, overwrites, commits, gives_up, flushes, logs, installs, buffer_of, held_by, tests_of, grants}
use Rattle.model.specs.Journal.{Open, of_log}
use Rattle.model.specs.Order.{told, by_log, format_order, home_at, FormatOrder, OpeningOrder, by_operation, by_object, order_of, CallsOrder}

pub format_order_lem : FormatOrder
unfolding card_tests
format_order_lem v d = refl

ranges : (d : Blocks) (ps : List ℕ) → map told (map of_log (map (range_test d) ps)) ≡ map (λ p. by_log 10 (log_block p)) ps
ranges d [] = refl
ranges d (p ∷ ps) = ap (λ x. by_log 10 (log_block p) ∷ x) (ranges d ps)

lives : (d : Blocks) (ps : List ℕ) → AllByRecursion (λ p. homes_from ≤ home_at d p) ps → map told (map of_log (map (life_test d) ps)) ≡ map (λ p. by_log 11 (home_at d p)) ps
lives d [] h = refl
lives d (p ∷ ps) h =
    ap (λ t. (cond t 7 11, layers.Log, home_at d p) ∷ map told (map of_log (map (life_test d) ps))) (le-ltb (home_at d p) homes_from h.0) ∙
    ap (λ x. by_log 11 (home_at d p) ∷ x) (lives d ps h.1)

pub opening_order : OpeningOrder
unfolding card_tests
opening_order v d h =
    let ps = live_positions d in
    let rs = map (range_test d) ps in
    let ls = map (life_test d) ps in
    ap (λ x. format_order ++ (by_log 8 0 ∷ by_log 8 1 ∷ by_log 9 0 ∷ x))
    (ap (map told) (map-append of_log rs ls) ∙
    map-append told (map of_log rs) (map of_log ls) ∙
    ap (λ x. x ++ map told (map of_log ls)) (ranges d ps) ∙
    ap (λ x. map (λ p. by_log 10 (log_block p)) ps ++ x) (lives d ps h))

-- ## The other calls

deads : (l : Log) (d : Blocks) (bs : List ℕ) → map told (bytes_tests l d bs) ≡ map (λ b. by_object b 20) bs
deads l d [] = refl
deads l d (b ∷ bs) = ap (λ x. by_object b 20 ∷ x) (deads l d bs)

in_order : (c : Call) (j : Open) (d : Blocks) → map told (tests_of c j d) ≡ order_of c j
in_order (begins n) j d = refl
in_order (reads n o buffer) j d = refl
in_order (overwrites n o bytes) j d = refl
in_order (commits n) j d = ap (λ x. by_operation 13 ∷ by_log 21 0 ∷ by_log 22 0 ∷ x) (deads j.log d (dirty_blocks (held_by j n) []))
in_order (gives_up n) j d = refl
in_order flushes j d = refl
in_order logs j d = refl
in_order installs j d = refl

pub calls_order : CallsOrder
calls_order c d = record { on_shut = refl; number_shut = refl; tests = λ j. in_order c j d; refused = λ j f e. ap (λ x. within Some (decided x (buffer_of c) j d (grants c j d))) e }
