-- The settings that an operation sees.
use Rattle.std.specs.Prelude.{ℕ}
use Rattle.disk.specs.Meaning.{Blocks}
use Rattle.model.specs.Journal.{View}
use Rattle.furnace.specs.declared.settings.Settings.{Settings}
use Rattle.furnace.specs.Settings.{reading, schedule_place, schedule_in, melt_place, melt_in, shelf_place, shelf_in}

-- read one after another by the operation of this number
abbrev pub seen : ℕ → View → Blocks → Settings
seen number v d =
    let schedule = reading number schedule_place 32 v d in
    let melt = reading number melt_place 512 schedule.state d in
    let shelf = reading number shelf_place 1 melt.state d in
    record { schedule = schedule_in schedule.buffer; melt = melt_in melt.buffer; shelf = shelf_in shelf.buffer }
