-- A history told by what the entries promise is a history of the definitions, and its words are those of the definitions' log.
use mathlib.Core.Path.{◌≡◌, refl, sym, ap, ◌∙◌, subst}
use mathlib.Core.List.{List, [], ◌∷◌, ◌++◌, map, append_assoc}
use Prim.Native.Nat.{ℕ}
use Rattle.lists.specs.Lists.{each}
use Rattle.model.specs.Mesh.{Mesh}
use Rattle.model.specs.Run.{Entry}
use Rattle.mesh.specs.Log.{words_of, word_list, words_in}
use Rattle.call_frame.specs.Answered.{front_of}
use Rattle.lineage.specs.History.{Called, History, HostStores, Afternoon}
use Rattle.lineage.specs.History as H
use Rattle.lineage.proofs.Histories.{afternoon}
use Rattle.joined.specs.Entries.{Entries, first, calling, moving, HostHolds, held, rooms}
use Rattle.joined.proofs.Join.{joined}

-- a history of the definitions, whose log has these words
pub record Told (M₀ M : Mesh) (words : List ℕ) : Type 0 where
  pub log : List Entry
  pub history : History M₀ M log
  pub is : words ≡ words_in (map words_of log)

-- the words of logs one behind the other
pub words_join : (l m : List Entry) → words_in (map words_of (l ++ m)) ≡ words_in (map words_of l) ++ words_in (map words_of m)
unfolding each
words_join [] m = refl
words_join (e ∷ l) m = rw (words_join l m) (sym (append_assoc (word_list (words_of e)) (words_in (map words_of l)) (words_in (map words_of m))))

pub told : {M₀ M : Mesh} {words : List ℕ} → Entries M₀ M words → Told M₀ M words
unfolding each
told (first b) = record { log = []; history = H.first b; is = refl }
told {M₀} (calling {k = k} {b = b} G D h e A) =
    let T = told h in
    let J = joined G k b D A in
    let C : Called (rooms A.lengths) _ (held k D) J.more = subst (λ (x : Mesh). Called (rooms A.lengths) x (held k D) J.more) e J.called in
    record {
      log = T.log ++ J.more;
      history = H.calling (rooms A.lengths) T.history C;
      is = ap (λ (x : List ℕ). x ++ front_of k.log D.log) T.is ∙ (ap (λ (x : List ℕ). words_in (map words_of T.log) ++ x) J.front ∙ sym (words_join T.log J.more));
    }
told (moving h W) = let T = told h in record { log = T.log; history = H.moving T.history W; is = T.is }

-- where the host puts such numbers into the mesh as f32 holds, so it does in that history
pub stores_told : {M₀ M : Mesh} {words : List ℕ} (h : Entries M₀ M words) → HostHolds h → HostStores (told h).history
unfolding told
stores_told (first b) S = S
stores_told (calling G D h e A) S = stores_told h S
stores_told (moving h W) S = (stores_told h S.0, S.1)

-- demand 3 of what the entries left: the fronts that they handed back are the words of a log that all of it holds with
pub entries_afternoon : {M₀ M : Mesh} {words : List ℕ} → Entries M₀ M words → (log : List Entry) × ((words ≡ words_in (map words_of log)) × Afternoon M₀ M log)
entries_afternoon h = let T = told h in (T.log, (T.is, afternoon T.history))
