-- Every field of a sheet of either edition, as it is read, holds its number; the fields of its outline too. Assumes nothing.
use Prim.Native.Nat.{ℕ, ◌≤◌}
use mathlib.Core.Path.{◌≡◌, ap}
use mathlib.Core.Bool.{Bool, true, false}
use mathlib.Core.List.{List, [], ◌∷◌, ◌++◌, map}
use native.Mathlib.Omega.{arith}
use lib.Dec.{eqb}
use lib.ListN.{length, take}
use Rattle.lists.specs.Lists.{pick, sift, each}
use Rattle.lists.proofs.Sifts.{pick_by}
use Rattle.bits.specs.Bits.{bits_of}
use Rattle.bits.specs.Rows.{Fit, FitAll}
use Rattle.outline.specs.Outline.{at, faces_of, single, outline_of_triangles, outline_of_straps, outline_of, same_sides_of, settled}
use Rattle.sheet.specs.Sheet.{Sheet, FitSheet, counts_at, counts_of, sheet_with, triangle_w, edge_w, boundary_w}
use Rattle.sheet.specs.declared.Counts.{Counts}
use Rattle.sheet.proofs.There.{limits}
use Rattle.edition.specs.Edition.{second, bits_in_of, own_of, outline_in, typed_of, sheet_of, seen_of, whole_with}
use Rattle.edition.specs.Work.{TypedIn}
use Rattle.edition.proofs.Starts.{typed_in}
use Rattle.edition.proofs.Fields.{typed_counts_lem, typed_fit}
use Rattle.edition.proofs.Counted.{sheet_counts}
use Rattle.edition.proofs.Entering.{SeenWhole, seen_whole_tells}
use Rattle.sheet.proofs.Back.{row3}

-- ---- lists of rows

fit_append : (ws : List ℕ) (a b : List (List ℕ)) → FitAll ws a → FitAll ws b → FitAll ws (a ++ b)
unfolding FitAll
fit_append ws [] b f g = g
fit_append ws (r ∷ a) b f g = (f.0, fit_append ws a b f.1 g)

fit_pick : (ws : List ℕ) (t : Bool) (r : List ℕ) (a : List (List ℕ)) → Fit ws r → FitAll ws a → FitAll ws (pick t (r ∷ a) a)
unfolding FitAll
fit_pick ws true r a f g = (f, g)
fit_pick ws false r a f g = g

fit_sift : (ws : List ℕ) (p : List ℕ → Bool) (a : List (List ℕ)) → FitAll ws a → FitAll ws (sift p a)
unfolding FitAll sift
fit_sift ws p [] f = tt
fit_sift ws p (r ∷ a) f = fit_pick ws (p r) r (sift p a) f.0 (fit_sift ws p a f.1)

fit_each : (vs ws : List ℕ) (F : List ℕ → List (List ℕ)) → ((r : List ℕ) → Fit vs r → FitAll ws (F r)) → (a : List (List ℕ)) → FitAll vs a → FitAll ws (each F a)
unfolding FitAll each
fit_each vs ws F h [] f = tt
fit_each vs ws F h (r ∷ a) f = fit_append ws (F r) (each F a) (h r f.0) (fit_each vs ws F h a f.1)

fit_map : (vs ws : List ℕ) (F : List ℕ → List ℕ) → ((r : List ℕ) → Fit vs r → Fit ws (F r)) → (a : List (List ℕ)) → FitAll vs a → FitAll ws (map F a)
unfolding FitAll
fit_map vs ws F h [] f = tt
fit_map vs ws F h (r ∷ a) f = (h r f.0, fit_map vs ws F h a f.1)

-- ---- an outline

faces_fit : (t : List ℕ) → Fit triangle_w t → FitAll boundary_w (faces_of t)
unfolding FitAll Fit
faces_fit t f = let w = row3 10 10 10 t f in ((w.1, (w.2, tt)), ((w.2, (w.3, tt)), ((w.3, (w.1, tt)), tt)))

strap_fit : (e : List ℕ) → Fit edge_w e → Fit boundary_w (take 2 e)
unfolding Fit
strap_fit [] f = absurd f
strap_fit (x ∷ []) f = absurd f.1
strap_fit (x ∷ y ∷ e) f = (f.0, (f.1.0, tt))

own_fit : (ts es : List (List ℕ)) → FitAll triangle_w ts → FitAll edge_w es → FitAll boundary_w (outline_of ts es)
unfolding outline_of outline_of_triangles outline_of_straps
own_fit [] es f g = fit_map edge_w boundary_w (take 2) strap_fit (sift (λ e. eqb (at e 2) 1) es) (fit_sift edge_w (λ e. eqb (at e 2) 1) es g)
own_fit (t ∷ ts) es f g = fit_each triangle_w boundary_w (λ u. sift (single (t ∷ ts)) (faces_of u)) (λ u h. fit_sift boundary_w (single (t ∷ ts)) (faces_of u) (faces_fit u h)) (t ∷ ts) f

outline_fit : (u : Bool) (s : Sheet) → FitAll triangle_w s.triangles → FitAll edge_w s.edges → FitAll boundary_w s.boundary → FitAll boundary_w (outline_in u s)
unfolding outline_in settled
outline_fit true s f g h = own_fit s.triangles s.edges f g
outline_fit false s f g h = pick_by (FitAll boundary_w) (same_sides_of s.boundary (own_of s)) h (own_fit s.triangles s.edges f g)

-- ---- a sheet that is whole

module _ (lim : Counts) (s : List ℕ) (c : Counts) (f : Bool) (whole : seen_of lim s ≡ whole_with c f) where
  abbrev l : List ℕ
  l = bits_of s

  abbrev d : Counts
  d = counts_at (bits_in_of (bits_of s))

  abbrev S : Sheet
  S = sheet_with (counts_at (bits_in_of (bits_of s))) (bits_in_of (bits_of s))

  pub told : SeenWhole lim s c f
  told = seen_whole_tells lim s c f whole

  pub typed : TypedIn s (counts_at (bits_in_of (bits_of s)))
  typed = typed_in lim s d told.typed

  -- the lists and the blade of what is read are those that are typed; the counts are those that were found
  pub read_counts : counts_of (sheet_of (bits_of s)).sheet ≡ c
  read_counts = sheet_counts lim s c f whole

  pub read_fits : FitSheet (sheet_of (bits_of s)).sheet
  unfolding sheet_of typed_of Fit
  read_fits =
      let w = limits d typed.few in
      let n = typed_counts_lem d (bits_in_of l) in
      let p : length S.particles ≡ d.particles = ap (λ (x : Counts). x.particles) n in
      let t : length S.triangles ≡ d.triangles = ap (λ (x : Counts). x.triangles) n in
      let e : length S.edges ≡ d.edges = ap (λ (x : Counts). x.edges) n in
      let F = typed_fit s typed.long typed.few in
      let b : length (sheet_of l).sheet.boundary ≤ 2048 = told.few in
      record {
        header = (omega arith, (omega arith, (omega arith, (omega arith, tt))));
        particles = F.particles;
        triangles = F.triangles;
        edges = F.edges;
        boundary = outline_fit (second l) S F.triangles F.edges F.boundary;
        blade = F.blade;
      }
