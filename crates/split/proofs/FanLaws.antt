-- The fan of a particle read from the tables of links, whichever its elements are. Assumes nothing.
use mathlib.Core.Path.{◌≡◌}
use mathlib.Core.List.{List}
use Prim.Native.Nat.{ℕ}
use lib.Ieee.{Float}
use Rattle.lists.specs.Lists.{sift}
use Rattle.model.specs.Mesh.{Triangle, Edge}
use Rattle.model.specs.Elements.{triangles_from, straps_from, corners_per_of}
use Rattle.elements.specs.Table.{holding, kind_is, elements_in}
use Rattle.elements.specs.declared.Kind.{Kind as KindCase}
use Rattle.elements.specs.declared.Kind.TheVariants.{Triangles as TrianglesCase, Straps as StrapsCase, Nothing as NothingCase}
use Rattle.link_fans.specs.Fans.{FanPut}
use Rattle.link_fans.proofs.Fanned.{put_none}

module _ (kind : KindCase) (v : ℕ) (ts : List Triangle) (es : List Edge) (r : ℕ) (N K : List ℕ) (M : List Float) where
  pub held_triangles : kind ≡ TrianglesCase → FanPut 3 (holding v (triangles_from 0 ts)) r N K M → FanPut (corners_per_of (kind_is kind)) (holding v (elements_in (kind_is kind) ts es)) r N K M
  unfolding elements_in
  held_triangles e T = rw e T

  pub held_straps : kind ≡ StrapsCase → FanPut 2 (holding v (straps_from 0 es)) r N K M → FanPut (corners_per_of (kind_is kind)) (holding v (elements_in (kind_is kind) ts es)) r N K M
  unfolding elements_in
  held_straps e T = rw e T

  pub held_nothing : kind ≡ NothingCase → r ≡ 0 → FanPut (corners_per_of (kind_is kind)) (holding v (elements_in (kind_is kind) ts es)) r N K M
  unfolding elements_in sift
  held_nothing e z = rw (e, z) (put_none 2 N K M)
