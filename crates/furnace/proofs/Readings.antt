-- Three reads, one after another, that leave the disk as it was.
use Rattle.std.proofs.Common.{◌≡◌, ℕ, ap, ◌∙◌}
use Rattle.disk.specs.Meaning.{Blocks}
use Rattle.model.specs.Journal.{View}
use Rattle.furnace.specs.declared.schedule.Schedule.{Schedule}
use Rattle.furnace.specs.declared.melt.Melt.{Melt}
use Rattle.furnace.specs.declared.shelf.Shelf.{Shelf}
use Rattle.furnace.specs.Settings.{reading, schedule_place, schedule_in, melt_place, melt_in, shelf_place, shelf_in}
use Rattle.furnace.specs.Seen.{seen}

pub seen_by : (n : ℕ) (v v2 v3 : View) (d d2 d3 : Blocks) (s : Schedule) (m : Melt) (h : Shelf) →
    s ≡ schedule_in (reading n schedule_place 32 v d).buffer → v2 ≡ (reading n schedule_place 32 v d).state → d2 ≡ d →
    m ≡ melt_in (reading n melt_place 512 v2 d2).buffer → v3 ≡ (reading n melt_place 512 v2 d2).state → d3 ≡ d →
    h ≡ shelf_in (reading n shelf_place 1 v3 d3).buffer → record { schedule = s; melt = m; shelf = h } ≡ seen n v d
seen_by n v v2 v3 d d2 d3 s m h a p e b q f c =
    let melt : Blocks → View → _ = λ x w. reading n melt_place 512 w x in
    let at : melt d2 v2 ≡ melt d (reading n schedule_place 32 v d).state = ap (melt d2) p ∙ ap (λ x. melt x (reading n schedule_place 32 v d).state) e in
    let shelf : h ≡ shelf_in (reading n shelf_place 1 (melt d (reading n schedule_place 32 v d).state).state d).buffer =
    c ∙ ap (λ w. shelf_in (reading n shelf_place 1 w d3).buffer) (q ∙ ap (λ o. o.state) at) ∙ ap (λ x. shelf_in (reading n shelf_place 1 (melt d (reading n schedule_place 32 v d).state).state x).buffer) f in
    ap (λ x. record { schedule = x; melt = m; shelf = h }) a ∙
    ap (λ x. record { schedule = schedule_in (reading n schedule_place 32 v d).buffer; melt = x; shelf = h }) (b ∙ ap (λ o. melt_in o.buffer) at) ∙
    ap (λ x. record { schedule = schedule_in (reading n schedule_place 32 v d).buffer; melt = melt_in (melt d (reading n schedule_place 32 v d).state).buffer; shelf = x }) shelf
