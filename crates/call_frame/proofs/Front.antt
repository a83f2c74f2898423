-- The filled front of a log: what `log_front` hands back of the log that a call left, where it is asked for as many entries as the call told.
use Prim.Native.Nat.{ℕ, ◌+◌, ◌-◌, ◌*◌, ◌/◌, min}
use mathlib.Core.Path.{◌≡◌, refl, sym, ap, ◌∙◌}
use mathlib.Core.List.{List, [], ◌∷◌, map}
use mathlib.Core.Bool.{Bool}
use native.Mathlib.Omega.{arith}
use lib.ListN.{length, take, replicate, length-append, length-replicate, length-map}
use lib.Seq.{take_at}
use lib.Ieee.{Float}
use Rattle.lists.specs.Lists.{padded, each}
use Rattle.model.specs.Calls.{Outcome, refused, done}
use Rattle.mesh.specs.Log.{Words, words_of, word_list, words_in}
use Rattle.mesh.specs.Given.{Lent}
use Rattle.mesh.specs.declared.Counts.{Counts}
use Rattle.call_frame.specs.Answered.{Answered, shown, counts_of, front_of}
use Rattle.std.specs.Prelude.{Ok}
use Rattle.call_frame.specs.declared.Answer.{Answer}

-- six words for each entry
pub words_long : (l : List Words) → length (words_in l) ≡ 6 * length l
unfolding each
words_long [] = refl
words_long (e ∷ l) = omega (arith, length-append (word_list e) (words_in l), words_long l)

-- the front of a log that begins with the words of n entries
front_words : (l : List Words) (m : ℕ) (g : List ℕ) → g ≡ padded m 0 (words_in l) → length g ≡ m → front_of (length l) g ≡ words_in l
unfolding padded
front_words l m g e h =
    let w = words_in l in
    let z = replicate {A = ℕ} (m - length w) 0 in
    let n : length g ≡ length w + length z = ap length e ∙ length-append w z in
    let k : length z ≡ m - length w = length-replicate {A = ℕ} (m - length w) 0 in
    let q : length w ≡ 6 * length l = words_long l in
    let t : 6 * min (length l) (length g / 6) ≡ 6 * length l = omega arith in
    ap (λ (j : ℕ). take j g) t ∙ (ap (λ (x : List ℕ). take (6 * length l) x) e ∙ take_at w z (6 * length l) q)

-- after an accepted call that told so many entries, the front is the words of the log that the definition gave
pub front_told : (o : Outcome) (L : Lent) (k : Counts) (b : Bool) (p : List Float) (r c : List ℕ) (v : List Float) (e : List ℕ) (l : List Float) (s g : List ℕ)
    → Answered o L (Ok (record { counts = k; changed = b })) p r c v e l s g → length g ≡ L.log → front_of k.log g ≡ words_in (shown o).log
front_told (refused n) L k b p r c v e l s g A h = let z : ◌≡◌ {A = ℕ} 0 1 = cc A.answer in absurd (omega arith)
front_told (done M more t) L k b p r c v e l s g A h =
    let a : ◌≡◌ {A = Answer} (record { counts = k; changed = b }) (record { counts = counts_of M more; changed = t }) = cc A.answer in
    let q : k ≡ counts_of M more = ap (λ (x : Answer). x.counts) a in
    let n : k.log ≡ length (map words_of more) = ap (λ (x : Counts). x.log) q ∙ sym (length-map more words_of) in
    ap (λ (j : ℕ). front_of j g) n ∙ front_words (map words_of more) L.log g A.blocks.log h
