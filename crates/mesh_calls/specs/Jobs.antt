-- The calls that give a mesh, said once: what each asks beside the mesh, and what it does to it. Definitions only.
use Rattle.std.specs.Prelude.{Bool, true, ◌&&◌, List, ℕ, eqb, Float}
use Rattle.lists.specs.Lists.{pick, all, up_to}
use Rattle.exact.specs.Exact.{whole_point_of}
use Rattle.model.specs.Mesh.{Mesh}
use Rattle.model.specs.Elements.{Kind, kind_of}
use Rattle.model.specs.Run.{Rooms, Run, start}
use Rattle.model.specs.Split.{split_by_sides_of}
use Rattle.model.specs.Pieces.{remove_straddlers_of}
use Rattle.model.specs.Cut.{cut}
use Rattle.model.specs.Crack.{crack}
use Rattle.model.specs.Calls.{sides_ok, blade_ok, fraction_ok, triangles_lent, refusal, known, edition_refusal, first_of, Outcome, outcome, unless}
use Rattle.split_plan.specs.Opened.{place_in}
use Rattle.marks.specs.Marking.{blade_by}
use Rattle.marks.specs.declared.Rule.{Rule}
use Rattle.marks.specs.declared.Rule.TheVariants.{Rounded, Signs}
use Rattle.mesh_calls.specs.declared.Job.{Job}
use Rattle.mesh_calls.specs.declared.Job.TheVariants.{Straddlers, Split, Cut, Crack}

-- the numbers beside the mesh are right
abbrev pub job_numbers : Job → Bool
job_numbers Straddlers = true
job_numbers (Split v) = true
job_numbers (Cut n b0 b1 f) = blade_ok (record { from = b0; to = b1 })
job_numbers (Crack min) = true

-- the arguments beside the mesh are right; the list is the sides of a split, or the torn edges of a crack
abbrev pub job_arguments : Job → List ℕ → Rooms → Mesh → Bool
job_arguments Straddlers ls L M = triangles_lent L M
job_arguments (Split v) ls L M = sides_ok M v ls && triangles_lent L M
job_arguments (Cut n b0 b1 f) ls L M = known n && fraction_ok f && triangles_lent L M
job_arguments (Crack min) ls L M = triangles_lent L M

-- what refuses a call behind the checks 1 to 4: a cut's edition
abbrev pub job_edition : Job → Mesh → ℕ
job_edition Straddlers M = 0
job_edition (Split v) M = 0
job_edition (Cut n b0 b1 f) M = edition_refusal n M (record { from = b0; to = b1 })
job_edition (Crack min) M = 0

-- what refuses a call before its steps, or 0
abbrev pub job_refusal : Job → List ℕ → Bool → Mesh → Rooms → ℕ
job_refusal j ls sized M L = first_of (refusal sized M (job_numbers j) (job_arguments j ls L M)) (job_edition j M)

-- the rule by which the program cuts in an edition: the second by signs, which on whole coordinates is the exact rule
abbrev pub rule_in_of : ℕ → Rule
rule_in_of n = pick (eqb n 2) Signs Rounded

-- what a call does to the run of a mesh of some kind
abbrev pub job_run : Job → List ℕ → Kind → Run → Run
job_run Straddlers ls K R = remove_straddlers_of K R
job_run (Split v) ls K R = split_by_sides_of K v ls R
job_run (Cut n b0 b1 f) ls K R = cut K (blade_by (rule_in_of n) b0 b1) f R
job_run (Crack min) ls K R = crack K min ls R

-- the answer of a call
unfoldable pub job_call : Job → List ℕ → Bool → Mesh → Rooms → Outcome
job_call j ls sized M L = unless (job_refusal j ls sized M L) (outcome L (job_run j ls (kind_of M) (start M)))

-- the first n positions of a block of points are whole
unfoldable pub whole_places_of : ℕ → List Float → Bool
whole_places_of n points = all (λ i. whole_point_of (place_in points i)) (up_to n)
