-- What readings mean to the rules.
use Rattle.fields.specs.declared.Field as field
use Rattle.fields.specs.declared.Ring as ring
use Rattle.rules.specs.Pages.{Setup, State}
use Rattle.rules.specs.Views.{state}
use Rattle.pages.specs.declared.read.Readings.{Readings}
use Rattle.pages.specs.Views.{over}

-- the page that they are of
abbrev pub of_page : {F : Type 0} {f : field.Ghosts F} {r : ring.Ghosts F} → Readings F f r → Setup
of_page readings = over readings.page.now

-- what they see of it
abbrev pub seen : {F : Type 0} {f : field.Ghosts F} {r : ring.Ghosts F} → Readings F f r → State
seen readings = state readings.page.now.plan readings.cells.now
