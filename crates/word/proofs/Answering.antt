-- From the checks and what was found to the service's promise. Assumes nothing.
use Prim.Native.Nat.{ℕ}
use mathlib.Core.Path.{◌≡◌, sym, ap, ◌∙◌}
use mathlib.Core.List.{List}
use Rattle.sheet.specs.Check.{Clear, Refused}
use Rattle.sheet.specs.Values.Laws.{returns_specified}
use Rattle.machine.specs.declared.loading.Loaded.{Loaded}
use Rattle.machine.specs.Machine.{Mealy, meaning}
use Rattle.machine.specs.Loading.{LoadedBy}
use Rattle.word.specs.declared.answer.Searched.{Searched}
use Rattle.word.specs.Search.{search}
use Rattle.word.specs.Service.{search_causes, answer_of, zeros, padded, values_of, Searches}
use Rattle.word.specs.Service.Laws.{searching_refused, searching_clear, found_refused, found_clear}

module _ (s : List ℕ) (l : Loaded) (h : LoadedBy (search_causes s) s l) where
  pub early_refused : {a b : ℕ} → l.check ≡ Refused a b
      → Searches s (record { answer = Refused a b; word = zeros })
  early_refused e =
      let c = sym h.check ∙ e in
      record {
        answer = returns_specified values_of (sym (searching_refused s c));
        word = sym (ap padded (found_refused s c));
      }

  module _ (e : l.check ≡ Clear) where
    pub searched : {r : Searched}
        → (r.answer ≡ answer_of (search (meaning l.machine))) × (r.word ≡ padded (search (meaning l.machine)))
        → Searches s r
    searched {r} f =
        let c = sym h.check ∙ e in
        record {
          answer =
              returns_specified values_of
              (f.0 ∙ ap (λ (M : Mealy). answer_of (search M)) (h.machine e) ∙ sym (searching_clear s c));
          word = f.1 ∙ ap (λ (M : Mealy). padded (search M)) (h.machine e) ∙ sym (ap padded (found_clear s c));
        }
