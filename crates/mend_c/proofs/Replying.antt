-- Each end of mending through C. Assumes nothing.
use Prim.Native.Nat.{ℕ, ◌*◌, ◌<◌, ◌≤◌}
use mathlib.Core.Path.{◌≡◌, refl, sym, ap, ◌∙◌, subst}
use mathlib.Core.Bool.{Bool, true, false, ◌&&◌}
use mathlib.Core.List.{List, [], ◌∷◌}
use native.Mathlib.Omega.{arith}
use borrow.Author.Tests.{le-leb, lt-leb}
use lib.Dec.{leb}
use lib.ListN.{length, replicate}
use Rattle.lists.specs.Lists.{pick, padded}
use Rattle.bits.specs.Bits.{bits_of}
use Rattle.bits.proofs.Laws.{bits_none}
use Rattle.image.specs.Words.{written}
use Rattle.model.specs.Reads.{refused as no}
use Rattle.replies.specs.Reply.{Replied}
use Rattle.mending.specs.Sheets.{Mending, mended, refused, mend_of}
use Rattle.mender.specs.Answers.{fits, answer_for, bytes_of, text_of, mended_with, MendDone}
use Rattle.std.specs.Prelude.{Result, Err}
use Rattle.mesh.specs.Refused.{number_of}
use Rattle.mesh.specs.declared.refusals.Refusal.{Refusal}
use Rattle.mender.specs.declared.Mended.{Mended}
use Rattle.mender.specs.declared.MendError.{MendError}
use Rattle.mender.specs.declared.MendError.TheVariants.{Short, Refused}
use Rattle.mender.proofs.Done.{padded_none}
use Rattle.mender.proofs.Ends.{tell, refused_tell, small_code}
use Rattle.mend_c.specs.Mends.{all_fit, code_for, MendReplied}
use Rattle.lists.proofs.Truths.{and_end}

and_not : (x : Bool) → (x && false) ≡ false
and_not true = refl
and_not false = refl

code_whole : (M : Mending) (a b c : ℕ) → M ≡ mended (bytes_of M) (text_of M) → code_for M a b c ≡ pick (all_fit M a b c) 0 4
unfolding code_for
code_whole M a b c e = subst (λ (x : Mending). code_for x a b c ≡ pick (all_fit x a b c) 0 4) (sym e) refl

-- nothing is shown
module _ (s : List ℕ) (a b c r : ℕ) (out said counts : List ℕ) where
  none : code_for (mend_of s) a b c ≡ r → all_fit (mend_of s) a b c ≡ false → bits_of out ≡ replicate (8 * a) 0 → said ≡ replicate b 0 → counts ≡ written c [] → MendReplied s a b c r out said counts
  none e f o p w =
      let M = mend_of s in
      record {
        code = sym e;
        bits = o ∙ (sym (padded_none (8 * a)) ∙ (ap (padded (8 * a) 0) (sym bits_none) ∙ ap (λ (x : Bool). padded (8 * a) 0 (bits_of (pick x (bytes_of M) []))) (sym f)));
        text = p ∙ (sym (padded_none b) ∙ ap (λ (x : Bool). padded b 0 (pick x (text_of M) [])) (sym f));
        words = w ∙ ap (λ (x : Bool). written c (pick x (length (bytes_of M) ∷ length (text_of M) ∷ []) [])) (sym f);
      }

-- the counts have no room
pub few_counts : (s : List ℕ) (a b c : ℕ) (out said out' said' counts' : List ℕ) (R : Result Mended MendError) (n k : ℕ) → MendDone s a b out said R → R ≡ mended_with n k → c < 8 → bits_of out' ≡ replicate (8 * a) 0 → said' ≡ replicate b 0 → counts' ≡ written c [] → MendReplied s a b c 4 out' said' counts'
few_counts s a b c out said out' said' counts' R n k d e h o p w =
    let M = mend_of s in
    let t = tell M a b n k (sym e ∙ d.answer) in
    let f : all_fit M a b c ≡ false = ap (λ (x : Bool). fits M a b && x) (lt-leb 8 c h) ∙ and_not (fits M a b) in
    none s a b c 4 out' said' counts' (code_whole M a b c t.is ∙ ap (λ (x : Bool). pick x 0 4) f) f o p w

-- all have
pub all_told : (s : List ℕ) (a b c : ℕ) (out said counts' : List ℕ) (R : Result Mended MendError) (n k : ℕ) → MendDone s a b out said R → R ≡ mended_with n k → 8 ≤ c → counts' ≡ written c (n ∷ k ∷ []) → MendReplied s a b c 0 out said counts'
all_told s a b c out said counts' R n k d e h w =
    let M = mend_of s in
    let t = tell M a b n k (sym e ∙ d.answer) in
    let g : all_fit M a b c ≡ fits M a b = ap (λ (x : Bool). fits M a b && x) (le-leb 8 c h) ∙ and_end (fits M a b) in
    let f : all_fit M a b c ≡ true = g ∙ t.fit in
    let v : n ∷ k ∷ [] ≡ length (bytes_of M) ∷ length (text_of M) ∷ [] = λ i. t.sheet i ∷ t.text i ∷ [] in
    record {
      code = sym (code_whole M a b c t.is ∙ ap (λ (x : Bool). pick x 0 4) f);
      bits = d.bits ∙ ap (λ (x : Bool). padded (8 * a) 0 (bits_of (pick x (bytes_of M) []))) (sym g);
      text = d.text ∙ ap (λ (x : Bool). padded b 0 (pick x (text_of M) [])) (sym g);
      words = w ∙ (ap (written c) v ∙ ap (λ (x : Bool). written c (pick x (length (bytes_of M) ∷ length (text_of M) ∷ []) [])) (sym f));
    }

-- the sheet or the text has no room
short_tells : (M : Mending) (a b : ℕ) → Err Short ≡ answer_for M a b → (fits M a b ≡ false) × (M ≡ mended (bytes_of M) (text_of M))
unfolding answer_for fits bytes_of text_of
short_tells (mended m t) a b e = by (leb (length m) a && leb (length t) b) e
  where
    by : (x : Bool) → Err Short ≡ pick x (mended_with (length m) (length t)) (Err Short) → (x ≡ false) × (mended m t ≡ mended m t)
    by true e = absurd (let z : ◌≡◌ {A = ℕ} 0 1 = cc in omega arith)
    by false e = (refl, refl)
short_tells (refused n) a b e = absurd (let z : ◌≡◌ {A = ℕ} 0 1 = cc in omega arith)

hidden : (s : List ℕ) (a b : ℕ) (out said : List ℕ) (R : Result Mended MendError) → MendDone s a b out said R → fits (mend_of s) a b ≡ false → (bits_of out ≡ replicate (8 * a) 0) × (said ≡ replicate b 0)
hidden s a b out said R d f =
    let M = mend_of s in (
      d.bits ∙ (ap (λ (x : Bool). padded (8 * a) 0 (bits_of (pick x (bytes_of M) []))) f ∙ (ap (padded (8 * a) 0) bits_none ∙ padded_none (8 * a))),
      d.text ∙ (ap (λ (x : Bool). padded b 0 (pick x (text_of M) [])) f ∙ padded_none b),
    )

pub few_bytes : (s : List ℕ) (a b c : ℕ) (out said counts' : List ℕ) (R : Result Mended MendError) → MendDone s a b out said R → R ≡ Err Short → counts' ≡ written c [] → MendReplied s a b c 4 out said counts'
few_bytes s a b c out said counts' R d e w =
    let M = mend_of s in
    let t = short_tells M a b (sym e ∙ d.answer) in
    let h = hidden s a b out said R d t.0 in
    let f : all_fit M a b c ≡ false = ap (λ (x : Bool). x && leb 8 c) t.0 in
    none s a b c 4 out said counts' (code_whole M a b c t.1 ∙ ap (λ (x : Bool). pick x 0 4) f) f h.0 h.1 w

-- a refusal
code_refused : (n : Refusal) (a b c : ℕ) → code_for (refused n) a b c ≡ number_of n
unfolding code_for
code_refused n a b c = refl

fits_refused : (n : Refusal) (a b : ℕ) → fits (refused n) a b ≡ false
unfolding fits
fits_refused n a b = refl

pub refused_small : (s : List ℕ) (a b : ℕ) (out said : List ℕ) (R : Result Mended MendError) (n : Refusal) → MendDone s a b out said R → R ≡ Err (Refused n) → number_of n < 256
refused_small s a b out said R n d e = let q = small_code s n (refused_tell (mend_of s) a b n (sym e ∙ d.answer)) in omega arith

pub refused_told : (s : List ℕ) (a b c : ℕ) (out said counts' : List ℕ) (R : Result Mended MendError) (n : Refusal) (r : ℕ) → MendDone s a b out said R → R ≡ Err (Refused n) → Replied (no (number_of n)) c r counts' → MendReplied s a b c r out said counts'
refused_told s a b c out said counts' R n r d e w =
    let M = mend_of s in
    let i : M ≡ refused n = refused_tell M a b n (sym e ∙ d.answer) in
    let g : fits M a b ≡ false = ap (λ (x : Mending). fits x a b) i ∙ fits_refused n a b in
    let h = hidden s a b out said R d g in
    none s a b c r out said counts' (ap (λ (x : Mending). code_for x a b c) i ∙ (code_refused n a b c ∙ sym w.code)) (ap (λ (x : Bool). x && leb 8 c) g) h.0 h.1 w.bytes

-- cleared bytes, by a length of another name
pub zeros_as : (l : List ℕ) (n m : ℕ) → l ≡ replicate n 0 → n ≡ m → l ≡ replicate m 0
zeros_as l n m e f = e ∙ ap (λ (k : ℕ). replicate k 0) f

pub zeros_bits : (l : List ℕ) (n m : ℕ) → bits_of l ≡ replicate (8 * n) 0 → n ≡ m → bits_of l ≡ replicate (8 * m) 0
zeros_bits l n m e f = e ∙ ap (λ (k : ℕ). replicate (8 * k) 0) f
