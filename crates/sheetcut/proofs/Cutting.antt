-- A cut with the places that the program lends, and its listing; from the cut of fronts to the cut of a sheet, and to what the program prints. Assumes nothing.
use Prim.Native.Nat.{ℕ}
use mathlib.Core.Path.{◌≡◌, sym, ap, ◌∙◌, subst}
use mathlib.Core.Bool.{Bool}
use mathlib.Core.List.{List}
use lib.ListN.{length, get_or}
use lib.Ieee.{Float, nan}
use Rattle.model.specs.Mesh.{Mesh}
use Rattle.model.specs.Cut.{Line}
use Rattle.model.specs.Calls.{Outcome, cut_call}
use Rattle.mesh.specs.Given.{Lent, mesh_of, sizes_fit_of, rooms_of, as_rooms}
use Rattle.mesh.specs.Filled.{lent}
use Rattle.call_frame.specs.Answered.{Answered}
use Rattle.call_frame.specs.declared.Answer.{Answer}
use Rattle.bits.specs.Bits.{bits_of}
use Rattle.edition.specs.Edition.{sheet_of, seen_of, whole_with}
use Rattle.sheet.specs.declared.Counts.{Counts}
use Rattle.std.specs.Prelude.{Result, Err}
use Rattle.mesh.specs.declared.refusals.Refusal.{Refusal}
use Rattle.mesh.specs.Refused.{number_of}
use Rattle.edition.specs.declared.Seen.{Seen}
use Rattle.edition.proofs.Entering.{seen_whole_tells}
use Rattle.listing.specs.Listing.{printed, refused_bytes}
use Rattle.std.specs.Prelude.{Option}
use Rattle.sheet.specs.Sheet.{limits}
use Rattle.listing.specs.Answers.{Told}
use Rattle.sheetcut.specs.SheetCut.{rooms, fraction, cut_of, cut_seen, listed}
use Rattle.answer_listing.specs.Listed.{Listable, text_of}
use Rattle.sheet_fronts.specs.Fronts.{Ample, fronts, FrontsRead}
use Rattle.sheetcut.specs.Work.{Cuttable}
use Rattle.sheetcut.proofs.Answering.{places, cut_listable, cut_text}
use Rattle.sheet_fronts.proofs.Reading.{seen_few}
use Rattle.sheetcut.proofs.Reading.{fronts_cut}
use Rattle.std.specs.Prelude.{Result}
use Rattle.mesh.specs.declared.refusals.Refusal.{Refusal}

-- ---- the cut of blocks

module _ (sized : Bool) (M : Mesh) (B : Line) (f : Float) (a : Result Answer Refusal) (L : Lent) (p : List Float) (r c : List ℕ) (v : List Float) (e : List ℕ) (l : List Float) (b g : List ℕ)
    (A : Answered (cut_call sized M 1 B f (as_rooms (rooms_of L))) L a p r c v e l b g) (same : L ≡ places) (kept : lent p r c v e l b g ≡ L) where
  answered_places : Answered (cut_call sized M 1 B f (as_rooms (rooms_of places))) places a p r c v e l b g
  answered_places = subst (λ (x : Lent). Answered (cut_call sized M 1 B f (as_rooms (rooms_of x))) x a p r c v e l b g) same A

  -- the answer can be listed
  pub lent_listable : Listable a c v e l (length g)
  lent_listable = cut_listable sized M B f a p r c v e l b g (kept ∙ same) answered_places

  -- and the text is what is printed for the cut
  pub lent_listed : (t : Bool) (n : ℕ) (s : List ℕ) (w : Option ℕ) → f ≡ fraction → Told (text_of t a c v e l g) n s w → Told (printed t (cut_call sized M 1 B fraction rooms)) n s w
  lent_listed t n s w q W = subst (λ (x : List ℕ). Told x n s w) (cut_text sized M B f a p r c v e l b g (kept ∙ same) answered_places t q) W

-- ---- the cut of a sheet

-- the blocks of a whole sheet can be cut
pub whole_cuttable : (s : List ℕ) (c : Counts) (f : Bool) (L : Lent) (blade : ℕ) → seen_of limits s ≡ whole_with c f → Ample L → blade ≡ 4 → Cuttable c L blade
whole_cuttable s c f L blade seen A four =
    let F = seen_few s c f seen in
    record { few_particles = F.particles; few_triangles = F.triangles; few_edges = F.edges; few_boundary = F.boundary; ample = A; four = four }

-- what was printed for the cut of the fronts is what is printed for the sheet
pub fronts_listed :
    (s : List ℕ) (c : Counts) (P : List Float) (R C : List ℕ) (U : List Float) (E : List ℕ) (N : List Float) (O : List ℕ) (b : List Float) → FrontsRead s c P R C U E N O b → (f : Bool) (n : ℕ) (t : List ℕ) (w : Option ℕ)
    → Told (printed f (cut_call (sizes_fit_of (fronts c P R C U E N O)) (mesh_of (fronts c P R C U E N O)) 1 (record { from = record { x = get_or b 0 nan; y = get_or b 1 nan }; to = record { x = get_or b 2 nan; y = get_or b 3 nan } }) fraction rooms)) n t w
    → Told (printed f (cut_of (sheet_of (bits_of s)).sheet)) n t w
fronts_listed s c P R C U E N O b D f n t w W = subst (λ (o : Outcome). Told (printed f o) n t w) (fronts_cut s c P R C U E N O b D) W

-- what the program prints for a whole sheet: its cut as it is read, with the line where its typed outline was replaced
pub listed_whole : (s : List ℕ) (c : Counts) (f : Bool) → seen_of limits s ≡ whole_with c f → listed s ≡ printed f (cut_of (sheet_of (bits_of s)).sheet)
unfolding cut_seen
listed_whole s c f e =
    ap (λ (x : Result Seen Refusal). printed (sheet_of (bits_of s)).replaced (cut_seen x s)) e ∙ ap (λ (t : Bool). printed t (cut_of (sheet_of (bits_of s)).sheet)) (sym (seen_whole_tells limits s c f e).told)

-- and for a refused one: its number alone
pub listed_refused : (s : List ℕ) (n : Refusal) → seen_of limits s ≡ Err n → listed s ≡ refused_bytes (number_of n)
unfolding cut_seen
listed_refused s n e = ap (λ (x : Result Seen Refusal). printed (sheet_of (bits_of s)).replaced (cut_seen x s)) e

-- what was printed for a whole sheet, or for a refused one, is what the program prints
pub whole_listed : (s : List ℕ) (c : Counts) (f : Bool) (n : ℕ) (t : List ℕ) (w : Option ℕ) → seen_of limits s ≡ whole_with c f → Told (printed f (cut_of (sheet_of (bits_of s)).sheet)) n t w → Told (listed s) n t w
whole_listed s c f n t w e W = subst (λ (x : List ℕ). Told x n t w) (sym (listed_whole s c f e)) W

pub refused_listed : (s : List ℕ) (code : Refusal) (n : ℕ) (t : List ℕ) (w : Option ℕ) → seen_of limits s ≡ Err code → Told (refused_bytes (number_of code)) n t w → Told (listed s) n t w
refused_listed s code n t w e W = subst (λ (x : List ℕ). Told x n t w) (sym (listed_refused s code e)) W
