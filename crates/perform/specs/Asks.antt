-- What the workers of a call ask. Only contracts between workers need this file. Definitions only.
use Rattle.std.specs.Prelude.{Bool, true, false, ◌&&◌, List, ℕ, eqb}
use Rattle.elements.specs.declared.Kind.{Kind}
use Rattle.elements.specs.declared.Kind.TheVariants.{Triangles, Straps, Nothing}
use Rattle.marks.specs.declared.Rule.{Rule}
use Rattle.marks.specs.declared.Rule.TheVariants.{Rounded, Signs}
use Rattle.model.specs.Mesh.{Mesh}
use Rattle.model.specs.Elements.{kind_of}
use Rattle.split.specs.Tables.{SidesGiven}
use Rattle.mesh_calls.specs.declared.Job.{Job}
use Rattle.mesh_calls.specs.declared.Job.TheVariants.{Straddlers, Split, Cut, Crack}

-- what a call asks of the mesh that it works on
abbrev pub JobAsked : Job → List ℕ → Mesh → Type 0
JobAsked Straddlers ls M = Unit {0}
JobAsked (Split v) ls M = SidesGiven (kind_of M) M v ls
JobAsked (Cut n b0 b1 f) ls M = Unit {0}
JobAsked (Crack min) ls M = Unit {0}

-- do the marks by a rule tell of all that a cut would meet: straps are cut by rounded numbers alone, so those of another rule do not
abbrev pub marks_tell_of : Rule → Kind → Bool
marks_tell_of r Triangles = true
marks_tell_of Rounded Straps = true
marks_tell_of Signs Straps = false
marks_tell_of r Nothing = true

-- the blade passes by, where they do and a log that has them is empty
abbrev pub passed_by : Rule → Kind → ℕ → Bool
passed_by r K n = eqb n 0 && marks_tell_of r K
