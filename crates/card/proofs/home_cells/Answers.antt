use Rattle.std.proofs.Common.{◌≡◌, ℕ, map, get_or, sym, refl, ap, ◌∙◌, arith, rules}
use Rattle.std.specs.List.{flat_map, range_with_len}
use Rattle.std.proofs.lemmas.List.Folds.{flat_map-map}
use Rattle.std.proofs.lemmas.List.FromFn.{fill_by_all}
use Rattle.card.specs.Bytes.{to_bytes}
use Rattle.card.specs.Layout.{slots}
use Rattle.card.proofs.Made.{made}
use Rattle.card.proofs.home_cells.Goals as goal

pub returns : goal.returns
returns c =
    let hs = c.args.homes.now in
    let at : ℕ → ℕ = λ s. get_or hs s 0 in
    let all : hs ≡ map at (range_with_len 0 slots) = fill_by_all at hs slots 0 (omega arith) (λ k l. refl) in
    let cells = made _ _ slots (λ s. to_bytes 4 (at s)) c.from_fn.result c.from_fn.ensures.items (λ i y q l k. search rules) in
    ap (flat_map (λ bs. bs)) cells ∙
    flat_map-map (λ bs. bs) (λ s. to_bytes 4 (at s)) (range_with_len 0 slots) ∙
    sym (ap (flat_map (to_bytes 4)) all ∙ flat_map-map (to_bytes 4) at (range_with_len 0 slots))
