-- What the bytes of a schedule and of a melt record say.
use Rattle.std.specs.Prelude.{ℕ, ◌+◌, ◌*◌, List, map, replicate, ◌==◌, slice_index}
use Rattle.std.specs.List.{range_with_len}
use Rattle.disk.specs.Meaning.{Blocks}
use Rattle.object.specs.declared.Place.{Place}
use Rattle.model.specs.Journal.{View}
use Rattle.model.specs.Outcomes.{Outcome}
use Rattle.model.specs.Calls.{outcome, reads}
use Rattle.furnace.specs.declared.schedule.Firing.{Firing}
use Rattle.furnace.specs.declared.schedule.Schedule.{Schedule}
use Rattle.furnace.specs.declared.melt.Melt.{Melt}
use Rattle.furnace.specs.declared.shelf.Shelf.{Shelf}
use Rattle.furnace.specs.Words.{word_in, words_in}

-- the firing that a list has past its end
abbrev pub cold : Firing
cold = record { celsius = 0; minutes = 0 }

-- a firing is a temperature and then minutes
abbrev pub firing_in : List ℕ → ℕ → Firing
firing_in bs k = record { celsius = word_in bs (2 * k); minutes = word_in bs (2 * k + 1) }

abbrev pub firings_in : List ℕ → List Firing
firings_in bs = map (firing_in bs) (range_with_len 0 8)

abbrev pub schedule_in : List ℕ → Schedule
schedule_in bs = record { firings = firings_in bs }

abbrev pub melt_in : List ℕ → Melt
melt_in bs = record { readings = words_in bs 256 }

abbrev pub shelf_in : List ℕ → Shelf
shelf_in bs = record { taken = slice_index bs 0 == 1 }

-- where the card has each of them
abbrev pub schedule_place : Place
schedule_place = record { block = 64; offset = 0; size = 256 }

abbrev pub melt_place : Place
melt_place = record { block = 66; offset = 0; size = 4096 }

abbrev pub shelf_place : Place
shelf_place = record { block = 65; offset = 9; size = 1 }

-- a read of an object of so many bytes, into a buffer of zeros
abbrev pub reading : ℕ → Place → ℕ → View → Blocks → Outcome View
reading number place width v d = outcome (reads number place (replicate width 0)) v d
