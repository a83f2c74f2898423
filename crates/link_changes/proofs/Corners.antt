-- Laws of a corner that is moved: the cell is taken out of one chain and put into another. Assumes nothing.
use Prim.Native.Nat.{ℕ, ◌+◌, ◌*◌, ◌<◌}
use native.Mathlib.Omega.{arith}
use native.Mathlib.Decide.{ℕ_discrete}
use mathlib.Core.Path.{◌≡◌, refl, sym, ap, ◌∙◌, subst}
use mathlib.Core.Bool.{false}
use mathlib.Core.List.{List}
use lib.ListN.{length, get_or}
use Rattle.columns.specs.Block.{cell}
use Rattle.columns.proofs.Cells.{col_fits}
use Rattle.links.specs.Links.{holds, LinksOf}
use Rattle.link_changes.specs.Changes.{corner_moved, ChainRoom, CellPut, CellTaken, MoveRoom}
use Rattle.links.specs.Rooms.{CornersApart}
use Rattle.links.proofs.Lowest.{holds_none}
use Rattle.links.proofs.Same.{links_ext}
use Rattle.link_changes.proofs.Slots.{chain_room}
use Rattle.link_changes.proofs.Chained.{moved_here, moved_row, moved_column, apart_fewer, apart_ext, put_linked, take_linked}

module _ (i c w P k R S n : ℕ) (s t₀ : List ℕ) (I : MoveRoom i c w P k R S n s t₀) where
  abbrev f : ℕ → ℕ → ℕ
  f = cell 0 S s

  abbrev out : ℕ → ℕ → ℕ
  out = corner_moved i c P f

  pub moving_corner : c * S + i < length s
  moving_corner = omega (arith, I.here, I.room.rows, I.room.columns, col_fits c k S I.column)

  read : f c i ≡ get_or s (c * S + i) 0
  unfolding cell
  read = refl

  low : get_or s (c * S + i) 0 < P
  low = subst (λ (x : ℕ). x < P) read (I.apart.below c i I.column I.here)

  -- the table as it is has a place for it
  pub moving_out : ChainRoom (get_or s (c * S + i) 0) i c P k R S s t₀
  moving_out = chain_room (get_or s (c * S + i) 0) i c P k R S n s t₀ (length t₀) I.room refl I.here I.column low f (λ b j x y. refl) I.linked

  module _ (t : List ℕ) (long : length t ≡ length t₀) (C : CellTaken P k R (get_or s (c * S + i) 0) i c (cell 0 S s) t₀ t) where
    before : CornersApart P k i f
    before = apart_fewer P k i n f (omega (arith, I.here)) I.apart

    linked : LinksOf P k R n out t
    linked =
        take_linked P k R f f n i c (get_or s (c * S + i) 0) t₀ t I.linked I.here I.room.cells I.column low before (λ b j x y. refl) read
        (λ b x ne e. twice b x ne (e ∙ sym read)) (λ b j x y z. I.apart.below b j x z) C
      where
        twice : (b : ℕ) → b < k → (b ≡ c → ⊥) → f b i ≡ f c i → ⊥
        twice b x ne e =
            let lo : b < c → ⊥ = λ z. I.apart.apart b c i z I.column I.here e in
            let hi : c < b → ⊥ = λ z. I.apart.apart c b i z x I.here (sym e) in
            omega (arith, ne, lo, hi)

    -- and so has the one without it
    pub moving_in : ChainRoom w i c P k R S s t
    moving_in = chain_room w i c P k R S n s t (length t₀) I.room long I.here I.column I.head out (λ b j x y. sym (moved_row P k R i c P f b j (λ e. omega arith))) linked

    fresh : holds k out w i ≡ false
    fresh = holds_none k out i w (λ b x e. by b x e (ℕ_discrete b c))
      where
        by : (b : ℕ) → b < k → out b i ≡ w → Dec (b ≡ c) → ⊥
        by b x e (yes q) = let z : P ≡ w = sym (moved_here P k R i c P f) ∙ ap (λ (y : ℕ). out y i) (sym q) ∙ e in omega (arith, I.head)
        by b x e (no q) = I.fresh b x (moved_column P k R i c P f b q ∙ e)

    pub moving_done : (t' : List ℕ) → CellPut P k R w i c (cell 0 S s) t t' → LinksOf P k R n (corner_moved i c w (cell 0 S s)) t'
    moving_done t' D =
        links_ext P k R n (corner_moved i c w out) (corner_moved i c w f) t' (λ b j x y. by b j (ℕ_discrete j i) (ℕ_discrete b c))
        (put_linked P k R out f n i c w t t' linked I.here I.room.cells I.column I.head
        (apart_ext P k i f out (λ b j x y. moved_row P k R i c P f b j (λ e. omega arith)) before)
        (λ b j x y. moved_row P k R i c P f b j (λ e. omega arith)) (let e = moved_here P k R i c P f in omega arith) fresh D)
      where
        by : (b j : ℕ) → Dec (j ≡ i) → Dec (b ≡ c) → corner_moved i c w out b j ≡ corner_moved i c w f b j
        by b j (yes e) (yes q) = rw (e, q) (moved_here P k R i c w out ∙ sym (moved_here P k R i c w f))
        by b j (yes e) (no q) = rw e (sym (moved_column P k R i c w out b q) ∙ sym (moved_column P k R i c P f b q) ∙ moved_column P k R i c w f b q)
        by b j (no e) q = sym (moved_row P k R i c w out b j e) ∙ sym (moved_row P k R i c P f b j e) ∙ moved_row P k R i c w f b j e
