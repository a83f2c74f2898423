-- What a call that gives a mesh answers: the checks 1 to 4, then the rooms 5 to 8 of its steps, then the mesh and the log. Definitions only.
use Rattle.std.specs.Prelude.{ℕ, zero, suc, Bool, true, not, ◌&&◌, ◌||◌, List, [], ◌∷◌, length, eqb, leb, ltb, Float}
use Rattle.std.specs.Float.Ieee.{le}
use Rattle.lists.specs.Lists.{pick, all}
use Rattle.float.specs.Numbers.{zero32, half}
use Rattle.float.specs.Ranges.{number?}
use Rattle.blade.specs.declared.Point.{Point}
use Rattle.exact.specs.Exact.{whole_point_of}
use Rattle.model.specs.Mesh.{Particle, Mesh}
use Rattle.model.specs.Valid.{numbers_fit_of, indices_fit_of}
use Rattle.model.specs.Elements.{at, straps?, kind_of, fan_of}
use Rattle.model.specs.Run.{Entry, Need, Rooms, Run, start, changed}
use Rattle.model.specs.Split.{split_by_sides_of}
use Rattle.model.specs.Pieces.{remove_straddlers_of}
use Rattle.model.specs.Cut.{Line, Rule, rounded, exact, Blade, cut}
use Rattle.model.specs.Crack.{crack}
use Rattle.model.specs.Refusals.{size_refusal, number_refusal, name_refusal, argument_refusal, particle_refusal, edge_refusal, boundary_refusal, entry_refusal, whole_refusal, strap_refusal}

-- ---- 1 to 4

-- the numbers of a point, and of a blade's line
abbrev pub point_ok : Point → Bool
point_ok p = number? p.x && number? p.y

abbrev pub blade_ok : Line → Bool
blade_ok B = point_ok B.from && point_ok B.to

-- the insertion fraction lies in 0 to 0.5
abbrev pub fraction_ok : Float → Bool
fraction_ok f = le zero32 f && le f half

-- particle v is there
abbrev pub present : Mesh → ℕ → Bool
present M v = ltb v (length M.particles)

-- particle v is there, each side is 0 or 1, and there is one side per fan element
unfoldable pub sides_ok : Mesh → ℕ → List ℕ → Bool
sides_ok M v sides = present M v && all (λ s. ltb s 2) sides && eqb (length sides) (length (fan_of (kind_of M) M v))

-- each number of a list is above the one before it
unfoldable pub strictly : List ℕ → Bool
strictly [] = true
strictly (x ∷ []) = true
strictly (x ∷ y ∷ l) = ltb x y && strictly (y ∷ l)

-- a particle list is strictly rising, and each particle is there
unfoldable pub particles_ok : Mesh → List ℕ → Bool
particles_ok M ps = strictly ps && all (present M) ps

-- as many lent triangle places as triangles
abbrev pub triangles_lent : Rooms → Mesh → Bool
triangles_lent L M = leb (length M.triangles) L.triangles

-- the first of the checks 1 to 4 that fails, or 0: counts and column lengths; the numbers of the mesh and those beside it; indices; arguments
unfoldable pub refusal : Bool → Mesh → Bool → Bool → ℕ
refusal sized M numbers arguments = pick (not sized) size_refusal (pick (not (numbers_fit_of M && numbers)) number_refusal (pick (not (indices_fit_of M)) name_refusal (pick (not arguments) argument_refusal 0)))

-- ---- 11 and 12, of edition 2

-- edition 1 and edition 2 are known
abbrev pub known : ℕ → Bool
known n = eqb n 1 || eqb n 2

-- every position of a mesh is a whole one, and so are the ends of a line
unfoldable pub whole_mesh : Mesh → Bool
whole_mesh M = all (λ (p : Particle). whole_point_of (at p)) M.particles

abbrev pub whole_line : Line → Bool
whole_line B = whole_point_of B.from && whole_point_of B.to

-- a line drawn the other way
abbrev pub swapped : Line → Line
swapped B = record { from = B.to; to = B.from }

-- 11 for a position or an end that is not whole, then 12 for straps
abbrev pub exact_refusal : Mesh → Line → ℕ
exact_refusal M B = pick (not (whole_mesh M && whole_line B)) whole_refusal (pick (straps? (kind_of M)) strap_refusal 0)

-- an edition's own refusal: edition 1 has none
abbrev pub edition_refusal : ℕ → Mesh → Line → ℕ
edition_refusal n M B = pick (eqb n 2) (exact_refusal M B) 0

-- the rule of an edition
abbrev pub rule_of : ℕ → Rule
rule_of n = pick (eqb n 2) exact rounded

-- the blade along a line by the rule of an edition
abbrev pub blade_of : ℕ → Line → Blade
blade_of n B = record { line = B; rule = rule_of n }

-- the first of two refusals
abbrev pub first_of : ℕ → ℕ → ℕ
first_of zero m = m
first_of (suc n) m = suc n

-- ---- 5 to 8

-- the number of the first list for which a step needs more room than there is, or 0: 5 before 6, 7, 8
unfoldable pub too_small : Rooms → Need → ℕ
too_small L N =
    pick (ltb L.particles N.particles) particle_refusal
    (pick (ltb L.edges N.edges) edge_refusal
    (pick (ltb L.boundary N.boundary) boundary_refusal
    (pick (ltb L.log N.log) entry_refusal 0)))

-- the first step that doesn't fit refuses
unfoldable pub first_fault : Rooms → List Need → ℕ
first_fault L [] = 0
first_fault L (N ∷ Ns) = pick (eqb (too_small L N) 0) (first_fault L Ns) (too_small L N)

-- ---- the answers

-- a refusal's number; or a mesh, a log, and whether anything was split or inserted
pub data Outcome : Type 0 where
  refused : ℕ → Outcome
  done : Mesh → List Entry → Bool → Outcome

-- a run is done where no step lacks room
abbrev pub fitted : ℕ → Run → Outcome
fitted zero R = done R.mesh R.log (changed R)
fitted (suc n) R = refused (suc n)

-- the answer of a run
unfoldable pub outcome : Rooms → Run → Outcome
outcome L R = fitted (first_fault L R.needs) R

-- the answer o, unless a check refuses
abbrev pub unless : ℕ → Outcome → Outcome
unless zero o = o
unless (suc n) o = refused (suc n)

-- what refuses a cut before its steps: 1 to 4, with the edition among the arguments, then 11 and 12
abbrev pub cut_refusal : Bool → Mesh → ℕ → Line → Float → Rooms → ℕ
cut_refusal sized M n B f L = first_of (refusal sized M (blade_ok B) (known n && fraction_ok f && triangles_lent L M)) (edition_refusal n M B)

-- the cut in an edition along a line with an insertion fraction
unfoldable pub cut_call : Bool → Mesh → ℕ → Line → Float → Rooms → Outcome
cut_call sized M n B f L = unless (cut_refusal sized M n B f L) (outcome L (cut (kind_of M) (blade_of n B) f (start M)))

-- the crack of torn edges with a minimum piece
unfoldable pub crack_call : Bool → Mesh → List ℕ → ℕ → Rooms → Outcome
crack_call sized M is min L = unless (refusal sized M true (triangles_lent L M)) (outcome L (crack (kind_of M) min is (start M)))

-- the split of v by sides
unfoldable pub split_call : Bool → Mesh → ℕ → List ℕ → Rooms → Outcome
split_call sized M v sides L = unless (refusal sized M true (sides_ok M v sides && triangles_lent L M)) (outcome L (split_by_sides_of (kind_of M) v sides (start M)))

-- the removal of straddlers across pieces
unfoldable pub straddlers_call : Bool → Mesh → Rooms → Outcome
straddlers_call sized M L = unless (refusal sized M true (triangles_lent L M)) (outcome L (remove_straddlers_of (kind_of M) (start M)))
