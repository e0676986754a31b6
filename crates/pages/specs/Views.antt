-- What the code's values mean to the rules.
use Rattle.fields.specs.declared.Field as field
use Rattle.fields.specs.declared.Ring as ring
use Rattle.rules.specs.Pages.{Setup}
use Rattle.rules.specs.Views.{setup}
use Rattle.pages.specs.declared.page.Page.{Page}

-- a page's field and numbers
abbrev pub over : {F : Type 0} {f : field.Ghosts F} {r : ring.Ghosts F} → Page F f r → Setup
over {f} {r} page = setup (r.ops page.field) (f.points page.field) page.plan
