-- Laws of the log of a split: its copies, noted one by one, then the edges that went, which are the model's. Assumes nothing.
use mathlib.Core.Path.{◌≡◌, refl, sym, ◌∙◌, ap, subst}
use mathlib.Core.Bool.{Bool, true, false}
use mathlib.Core.List.{List, [], ◌∷◌, ◌++◌, map, map-append, append-nil, append_assoc}
use Prim.Native.Nat.{ℕ, ◌+◌, ◌-◌, ◌<◌, ◌≤◌}
use native.Mathlib.Omega.{arith}
use borrow.Author.Tests.{leb-true, leb-false, le-leb, lt-leb}
use lib.Dec.{leb}
use lib.ListN.{length, take}
use Rattle.lists.specs.Lists.{tab, up_to}
use Rattle.lists.proofs.Steps.{tab_step}
use Rattle.mesh.specs.Log.{Words, log_at}
use Rattle.work.specs.Removal.{gone_words, ListNoted}
use Rattle.split.specs.Settling.{copy_words, CopiesNoted, SplitNoted}

-- ---- copies

-- at the head of the loop: i copies are noted
pub record Copying (v before m at : ℕ) (log₀ log : List ℕ) (i : ℕ) : Type 0 where
  pub noted : log_at (at + i) log ≡ log_at at log₀ ++ map (copy_words v before) (up_to i)
  pub inside : i ≤ m
  pub long : length log ≡ length log₀

module _ (v before m at : ℕ) (log₀ : List ℕ) where
  pub copying_start : Copying v before m at log₀ log₀ 0
  unfolding up_to tab
  copying_start =
      let e : at + 0 ≡ at = omega arith in
      record { noted = ap (λ (n : ℕ). log_at n log₀) e ∙ sym (append-nil (log_at at log₀)); inside = omega arith; long = refl }

  -- one more copy
  pub copying_step : {log : List ℕ} {i : ℕ} → Copying v before m at log₀ log i → (log' : List ℕ) → i < m → length log' ≡ length log
      → log_at (at + i + 1) log' ≡ log_at (at + i) log ++ (copy_words v before i ∷ []) → Copying v before m at log₀ log' (i + 1)
  unfolding up_to
  copying_step {log} {i} G log' h l q =
      let e : at + (i + 1) ≡ at + i + 1 = omega arith in
      record {
        noted =
            ap (λ (n : ℕ). log_at n log') e ∙ q ∙ ap (λ (w : List Words). w ++ (copy_words v before i ∷ [])) G.noted
            ∙ append_assoc (log_at at log₀) (map (copy_words v before) (up_to i)) (copy_words v before i ∷ [])
            ∙ ap (λ (w : List Words). log_at at log₀ ++ w) (sym (ap (map (copy_words v before)) (tab_step (λ k. k) i) ∙ map-append (copy_words v before) (up_to i) (i ∷ [])));
        inside = omega arith;
        long = l ∙ G.long;
      }

  -- after the last copy
  pub copying_done : {log : List ℕ} {i : ℕ} → Copying v before m at log₀ log i → m ≤ i → CopiesNoted v before m at log₀ log
  copying_done {log} {i} G h =
      let b = G.inside in
      let e : i ≡ m = omega arith in
      record { noted = subst (λ (z : ℕ). log_at (at + z) log ≡ log_at at log₀ ++ map (copy_words v before) (up_to z)) e G.noted }

-- both, one behind the other
pub split_noted : (v before m at s : ℕ) (list ends log log₁ log₂ : List ℕ) (r : ℕ) → CopiesNoted v before m at log log₁ → ListNoted list s (at + m) ends log₁ log₂ r
    → SplitNoted v before m at s list ends log log₂ r
split_noted v before m at s list ends log log₁ log₂ r A B =
    record {
      count = B.count;
      entries =
          B.entries ∙ ap (λ (w : List Words). w ++ map (gone_words ends) (take s list)) A.noted
          ∙ append_assoc (log_at at log) (map (copy_words v before) (up_to m)) (map (gone_words ends) (take s list));
    }

-- ---- room

-- s does not fit
pub fits_not : (free m s extra : ℕ) → free < s → false ≡ leb (m + s + extra) free
fits_not free m s extra h = sym (lt-leb (m + s + extra) free (omega arith))

-- s fits, and the others are to fit in the rest
pub fits_rest : (free m s extra : ℕ) → s ≤ free → leb (m + extra) (free - s) ≡ leb (m + s + extra) free
fits_rest free m s extra h = by (leb (m + extra) (free - s)) refl
  where
    by : (t : Bool) → leb (m + extra) (free - s) ≡ t → t ≡ leb (m + s + extra) free
    by true e = let l : m + extra ≤ free - s = leb-true _ _ e in sym (le-leb (m + s + extra) free (omega arith))
    by false e = let l : free - s < m + extra = leb-false _ _ e in sym (lt-leb (m + s + extra) free (omega arith))
