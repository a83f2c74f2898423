-- `straddlers::across::remove_straddlers` meets its contract: the tables of pieces, the masks, and the removal of what they mark. Assumes nothing.
use mathlib.Core.Path.{refl}
use Rattle.straddlers.proofs.Straddled.{straddlers_gone_lem, nothing_gone}
use Rattle.straddlers.proofs.PieceTables.{corners_wide, ends_wide, sides_wide}
use Rattle.elements.specs.Table.{kind_is}
use Rattle.elements.specs.declared.Kind.{Kind as KindCase}
use Rattle.elements.specs.declared.Kind.TheVariants.{Triangles as TrianglesCase, Straps as StrapsCase, Nothing as NothingCase}
use Rattle.model.specs.Elements.{Nothing}
use Rattle.elements.specs.contracts.Kind
use types.Run.{OneOf}
use denote.Enum.Declared.{tag_of}
use mathlib.Core.Path.{◌≡◌, ap}
use mathlib.Core.Logic.{⊎_elim}
use mathlib.Core.List.{[], ◌∷◌}
use Prim.Native.Nat.{ℕ}
use native.Mathlib.Omega.{arith}
use borrow.Author.Rules.{rules}
use Rattle.straddlers.proofs.across.remove_straddlers.Goals as goal

-- `straddlers::across::remove_straddlers` meets its contract: the tables of pieces, the masks, and the removal of what they mark. Assumes nothing.
-- a kind that is one of the first two is not the third
some_elements : (kind : KindCase) → (kind ≡ NothingCase → ⊥) → kind_is kind ≡ Nothing → ⊥
some_elements TrianglesCase o e = let z : ◌≡◌ {A = ℕ} 0 1 = cc in omega arith
some_elements StrapsCase o e = let z : ◌≡◌ {A = ℕ} 0 1 = cc in omega arith
some_elements NothingCase o e = absurd (o refl)

pub returns-in-Nothing : goal.returns-in-Nothing
returns-in-Nothing c = nothing_gone _ _ _ _ _ _ _ _ _ (ap kind_is c.in-Nothing.is) c.requires.0.counts

pub find_pieces-requires : goal.find_pieces-requires
find_pieces-requires c = let S = c.requires.0 in record { few_triangles = omega (arith, c.requires.0.counts.triangles, c.requires.0.few_triangles); few_edges = omega (arith, c.requires.0.counts.edges, c.requires.0.few_edges); corners_long = omega (arith, c.requires.0.counts.triangles, c.requires.0.corners); volumes_long = omega (arith, c.requires.0.counts.triangles, c.requires.0.volumes); ends_long = omega (arith, c.requires.0.counts.edges, c.requires.0.ends); lengths_long = omega (arith, c.requires.0.counts.edges, c.requires.0.lengths); corners_in = corners_wide (omega (arith, c.requires.0.counts.particles, c.requires.0.few_particles)) c.requires.1; ends_in = ends_wide (omega (arith, c.requires.0.counts.particles, c.requires.0.few_particles)) c.requires.2; used_long = omega arith }

pub mark_edges-s-requires : goal.mark_edges-s-requires
mark_edges-s-requires c = let S = c.requires.0 in let p = c.find_pieces.auto.parent in let u = c.find_pieces.auto.used in record { few = omega (arith, c.requires.0.counts.edges, c.requires.0.few_edges); ends_long = omega (arith, c.requires.0.counts.edges, c.requires.0.ends); mask_long = omega (arith, c.requires.0.counts.edges, c.requires.0.few_edges); used_long = omega (arith, p, u); ends_in = ends_wide (omega (arith, p, c.requires.0.counts.particles, c.requires.0.few_particles)) c.requires.2 }

pub mark_sides-requires : goal.mark_sides-requires
mark_sides-requires c = let S = c.requires.0 in let p = c.find_pieces.auto.parent in let u = c.find_pieces.auto.used in record { few = omega (arith, c.requires.0.counts.boundary, c.requires.0.few_boundary); outline_long = omega (arith, c.requires.0.counts.boundary, c.requires.0.outline); mask_long = omega (arith, c.requires.0.counts.boundary, c.requires.0.few_boundary); used_long = omega (arith, p, u); sides_in = sides_wide (omega (arith, p, c.requires.0.counts.particles, c.requires.0.few_particles)) c.requires.3 }

pub remove_marked-requires : goal.remove_marked-requires
remove_marked-requires c = let S = c.requires.0 in let E = c.requires.2 in let m = c.mark_edges-s.auto.mask in let d = c.mark_sides.auto.mask in record { marked_are = c.mark_edges-s.ensures.counted; edge_mask_long = omega (arith, m, c.requires.0.counts.edges, c.requires.0.few_edges); side_mask_long = omega (arith, d, c.requires.0.counts.boundary, c.requires.0.few_boundary); ends_long = omega (arith, c.requires.0.counts.edges, c.requires.0.ends); ends_in = record { first = λ j l. omega (arith, c.requires.2.first j l, c.requires.0.counts.particles, c.requires.0.few_particles); second = λ j l. omega (arith, c.requires.2.second j l, c.requires.0.counts.particles, c.requires.0.few_particles) }; lengths_long = omega (arith, c.requires.0.counts.edges, c.requires.0.lengths); outline_long = omega (arith, c.requires.0.counts.boundary, c.requires.0.outline); log_in = c.requires.0.counts.log; log_long = c.requires.0.log }

pub returns : goal.returns
returns c = let S = c.requires.0 in straddlers_gone_lem _ _ _ _ _ _ _ _ _ _ _ _ _ _ _ _ _ _ _ (some_elements c.args.kind c.in_default.not-Nothing) c.requires.0.counts (omega (arith, c.find_pieces.auto.parent, c.requires.0.counts.particles, c.requires.0.few_particles)) c.requires.2 c.requires.3 c.find_pieces.ensures c.mark_edges-s.ensures c.mark_sides.ensures c.remove_marked.ensures
