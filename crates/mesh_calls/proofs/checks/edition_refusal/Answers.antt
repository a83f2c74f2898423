-- `mesh_calls::checks::edition_refusal` meets its contract: the tests of edition 2 in their order. Assumes nothing.
use Prim.Native.Nat.{ℕ}
use native.Mathlib.Omega.{arith}
use mathlib.Core.Path.{◌≡◌, refl, ◌∙◌}
use mathlib.Core.Logic.{◌⊎◌, ⊎_elim}
use mathlib.Core.List.{[], ◌∷◌}
use types.Run.{OneOf}
use denote.Enum.Declared.{tag_of}
use lib.Ieee.{Float}
use Rattle.blade.specs.declared.Point.{Point}
use Rattle.model.specs.Mesh.{Mesh}
use Rattle.mesh.specs.At.{mesh_at}
use Rattle.elements.specs.declared.Kind.TheVariants.{Triangles, Straps, Nothing}
use Rattle.mesh_calls.specs.Jobs.{job_edition}
use Rattle.mesh_calls.specs.declared.Job.{Job}
use Rattle.mesh_calls.specs.declared.Job.TheVariants.{Straddlers, Split, Cut, Crack}
use Rattle.mesh_calls.specs.contracts.Job as job_type
use Rattle.mesh_calls.proofs.Editions.{places_whole, kind_found, edition_other, places_not, from_not, to_not, kind_tells}
use borrow.Author.Rules.{rules}
use mathlib.Core.Path.{ap}
use mathlib.Core.Bool.{not}
use Rattle.mesh_calls.proofs.checks.edition_refusal.Goals as goal
use Rattle.mesh_calls.proofs.checks.edition_refusal.Goals.{then-not-whole_places-via-else-not-whole_places+else-not-whole_point+then-not-whole_point-2, then-not-whole_places-via-else-not-whole_places+then-not-whole_point, then-not-whole_places-via-then-not-whole_places}

-- `mesh_calls::checks::edition_refusal` meets its contract: the tests of edition 2 in their order. Assumes nothing.
-- a job that is none of the cuts
no_cut : (job : Job) (M : Mesh) → ((n : ℕ) (b0 b1 : Point) (f : Float) → job ≡ Cut n b0 b1 f → ⊥) → 0 ≡ job_edition job M
no_cut Straddlers M h = refl
no_cut (Split v) M h = refl
no_cut (Cut n b0 b1 f) M h = absurd (h n b0 b1 f refl)
no_cut (Crack min) M h = refl

pub returns-in_default : goal.returns-in_default
returns-in_default c = no_cut c.args.job _ c.in_default.not-Cut

pub returns-then-edition-ne2 : goal.returns-then-edition-ne2
returns-then-edition-ne2 c = edition_other c.args.job _ _ _ _ _ c.in-Cut.is c.if-edition-ne2.true

pub returns-then-not-whole_places : goal.returns-then-not-whole_places
returns-then-not-whole_places c = let A = c.args in let arm = c.in-Cut.is in let second = c.if-edition-ne2.false in let told = (c.whole_places.ensures ∙ places_whole A.k A.in_points.now A.in_roots.now A.in_corners.now A.in_volumes.now A.in_ends.now A.in_lengths.now A.in_outline.now) in elim c.then-not-whole_places.branch [
  | then-not-whole_places-via-then-not-whole_places w ↦ places_not (mesh_at A.k A.in_points.now A.in_roots.now A.in_corners.now A.in_volumes.now A.in_ends.now A.in_lengths.now A.in_outline.now) A.job _ _ _ _ arm second _ told (ap not w.if-not-whole_places.true)
  | then-not-whole_places-via-else-not-whole_places+then-not-whole_point w ↦ from_not (mesh_at A.k A.in_points.now A.in_roots.now A.in_corners.now A.in_volumes.now A.in_ends.now A.in_lengths.now A.in_outline.now) A.job _ _ _ _ arm second _ told _ w.whole_point.ensures (ap not w.if-not-whole_point.true)
  | then-not-whole_places-via-else-not-whole_places+else-not-whole_point+then-not-whole_point-2 w ↦ to_not (mesh_at A.k A.in_points.now A.in_roots.now A.in_corners.now A.in_volumes.now A.in_ends.now A.in_lengths.now A.in_outline.now) A.job _ _ _ _ arm second _ told _ w.whole_point-else-not-whole_point.ensures (ap not w.if-not-whole_point-2.true)
]

pub returns-in-Triangles : goal.returns-in-Triangles
returns-in-Triangles c = let A = c.args in kind_tells (mesh_at A.k A.in_points.now A.in_roots.now A.in_corners.now A.in_volumes.now A.in_ends.now A.in_lengths.now A.in_outline.now) A.job _ _ _ _ c.in-Cut.is c.if-edition-ne2.false _ (c.whole_places.ensures ∙ places_whole A.k A.in_points.now A.in_roots.now A.in_corners.now A.in_volumes.now A.in_ends.now A.in_lengths.now A.in_outline.now) _ _ (ap not c.if-not-whole_places.false) c.whole_point.ensures (ap not c.if-not-whole_point.false) c.whole_point-else-not-whole_point.ensures (ap not c.if-not-whole_point-2.false) _ Triangles (kind_found A.k A.in_points.now A.in_roots.now A.in_corners.now A.in_volumes.now A.in_ends.now A.in_lengths.now A.in_outline.now _ c.kind_of-kind.ensures) c.in-Triangles.is

pub returns-in-Straps : goal.returns-in-Straps
returns-in-Straps c = let A = c.args in kind_tells (mesh_at A.k A.in_points.now A.in_roots.now A.in_corners.now A.in_volumes.now A.in_ends.now A.in_lengths.now A.in_outline.now) A.job _ _ _ _ c.in-Cut.is c.if-edition-ne2.false _ (c.whole_places.ensures ∙ places_whole A.k A.in_points.now A.in_roots.now A.in_corners.now A.in_volumes.now A.in_ends.now A.in_lengths.now A.in_outline.now) _ _ (ap not c.if-not-whole_places.false) c.whole_point.ensures (ap not c.if-not-whole_point.false) c.whole_point-else-not-whole_point.ensures (ap not c.if-not-whole_point-2.false) _ Straps (kind_found A.k A.in_points.now A.in_roots.now A.in_corners.now A.in_volumes.now A.in_ends.now A.in_lengths.now A.in_outline.now _ c.kind_of-kind.ensures) c.in-Straps.is

pub returns-in-Nothing : goal.returns-in-Nothing
returns-in-Nothing c = let A = c.args in kind_tells (mesh_at A.k A.in_points.now A.in_roots.now A.in_corners.now A.in_volumes.now A.in_ends.now A.in_lengths.now A.in_outline.now) A.job _ _ _ _ c.in-Cut.is c.if-edition-ne2.false _ (c.whole_places.ensures ∙ places_whole A.k A.in_points.now A.in_roots.now A.in_corners.now A.in_volumes.now A.in_ends.now A.in_lengths.now A.in_outline.now) _ _ (ap not c.if-not-whole_places.false) c.whole_point.ensures (ap not c.if-not-whole_point.false) c.whole_point-else-not-whole_point.ensures (ap not c.if-not-whole_point-2.false) _ Nothing (kind_found A.k A.in_points.now A.in_roots.now A.in_corners.now A.in_volumes.now A.in_ends.now A.in_lengths.now A.in_outline.now _ c.kind_of-kind.ensures) c.in-Nothing.is
