-- A cut by a mesh's kind: what is done to triangles, to straps, and to neither. Assumes nothing.
use mathlib.Core.Path.{◌≡◌, sym, subst}
use lib.Ieee.{Float}
use Rattle.model.specs.Cut.{cut_facets_of, cut_segments_of, cut_along}
use Rattle.marks.specs.Marking.{blade_by, blade_from}
use Rattle.marks.specs.declared.Rule.{Rule}
use Rattle.blade.specs.declared.Point.{Point}
use Rattle.mesh.specs.Log.{World}
use Rattle.mesh.specs.declared.Counts.{Counts}
use Rattle.mesh.specs.declared.Rooms.{Rooms}
use Rattle.elements.specs.Table.{kind_is}
use Rattle.elements.specs.declared.Kind.{Kind}
use Rattle.elements.specs.declared.Kind.TheVariants.{Triangles, Straps, Nothing}
use Rattle.work.specs.Working.{Within, Works}
use Rattle.work.specs.Ran.{Ran}
use Rattle.std.specs.Prelude.{Ok}

module _ (L : Rooms) (rule : Rule) (b0 b1 : Point) (f : Float) (kind : Kind) where
  -- a worker that cuts a mesh of kind K
  abbrev Cuts : World → (Counts → World) → Ran → Kind → Type 0
  Cuts W at r K = Works (cut_along (kind_is K) (blade_by rule b0 b1) f) L W at r

  pub cut_triangles : {W : World} {at : Counts → World} {r : Ran} → kind ≡ Triangles → Works (cut_facets_of (blade_by rule b0 b1)) L W at r → Cuts W at r kind
  unfolding cut_along
  cut_triangles {W} {at} {r} e F = subst (Cuts W at r) (sym e) (record { went = F.went })

  pub cut_straps : {W : World} {at : Counts → World} {r : Ran} → kind ≡ Straps → Works (cut_segments_of (blade_from b0 b1) f) L W at r → Cuts W at r kind
  unfolding cut_along
  cut_straps {W} {at} {r} e F = subst (Cuts W at r) (sym e) (record { went = F.went })

  -- nothing is done to a mesh of neither kind
  pub cut_nothing : (at : Counts → World) (k : Counts) → kind ≡ Nothing → Within k L → Cuts (at k) at (Ok k) kind
  unfolding cut_along
  cut_nothing at k e w = subst (Cuts (at k) at (Ok k)) (sym e) (record { went = λ R h z. (z, w, h) })
