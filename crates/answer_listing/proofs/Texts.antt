-- The text of an answer, case by case.
use Prim.Native.Nat.{ℕ, ◌*◌, ◌≤◌}
use mathlib.Core.Path.{◌≡◌, sym, subst}
use mathlib.Core.Bool.{Bool}
use mathlib.Core.List.{List}
use lib.Ieee.{Float}
use Rattle.mesh.specs.At.{triangles_at, edges_at}
use Rattle.mesh.specs.Log.{log_at}
use Rattle.call_frame.specs.declared.Answer.{Answer}
use Rattle.listing.specs.Listing.{listing_bytes, refused_bytes}
use Rattle.std.specs.Prelude.{Option}
use Rattle.listing.specs.Answers.{Told}
use Rattle.answer_listing.specs.Listed.{pieces_in, Countable, Listable, text_of_by}
use Rattle.std.specs.Prelude.{Result, Ok, Err}

module _ {E : Type 0} (told : E → ℕ) (a : Result Answer E) (c : List ℕ) (v : List Float) (e : List ℕ) (l : List Float) where
  -- what an answer of counts asks
  pub done_listable : (b : Answer) (g : ℕ) → a ≡ Ok b → Listable a c v e l g → Countable b.counts c v e l × (6 * b.counts.log ≤ g) × (b.counts.log ≤ 640)
  done_listable b g q h = subst (λ (x : Result Answer E). Listable x c v e l g) q h

  -- the text of a refusal
  pub refused_text : (f : Bool) (d : E) (n : ℕ) (g : List ℕ) (lent : ℕ) (s : List ℕ) (r : Option ℕ) → a ≡ Err d → n ≡ told d → Told (refused_bytes n) lent s r → Told (text_of_by told f a c v e l g) lent s r
  refused_text f d n g lent s r q p w = subst (λ (x : Result Answer E). Told (text_of_by told f x c v e l g) lent s r) (sym q) (subst (λ (m : ℕ). Told (refused_bytes m) lent s r) p w)

  -- the text of counts
  pub done_text :
      (f : Bool) (b : Answer) (found : ℕ) (g : List ℕ) (lent : ℕ) (s : List ℕ) (r : Option ℕ) → a ≡ Ok b → found ≡ pieces_in (triangles_at b.counts.triangles c v) (edges_at b.counts.edges e l)
      → Told (listing_bytes f (log_at b.counts.log g) b.counts.particles found) lent s r → Told (text_of_by told f a c v e l g) lent s r
  done_text f b found g lent s r q p w =
      subst (λ (x : Result Answer E). Told (text_of_by told f x c v e l g) lent s r) (sym q) (subst (λ (n : ℕ). Told (listing_bytes f (log_at b.counts.log g) b.counts.particles n) lent s r) p w)
