-- The loop of the sweep: its invariant, what its calls ask, and a turn.
-- Assumes nothing.
use Prim.Native.Nat.{ℕ, ◌+◌, ◌*◌, ◌≤◌, ◌<◌}
use mathlib.Core.Path.{◌≡◌, sym, ap, ◌∙◌}
use mathlib.Core.Bool.{Bool, false}
use mathlib.Core.List.{List}
use native.Mathlib.Omega.{arith}
use lib.ListN.{length, get_or, replicate}
use Rattle.machine.specs.Limits.{most_entries, most_sequence}
use Rattle.machine.specs.Machine.{Mealy}
use Rattle.machine.specs.Machine.Laws.{state_next, state_stays, proper_entry}
use Rattle.certify.specs.Folding.{byte_states}
use Rattle.certify.specs.Sweep.{place_entry, MergeRequires, Merged, Learnt, NextRequires, NextRepresented}
use Rattle.certify.specs.Sweep.{SweepRequires}
use Rattle.certify.specs.Sweep.{Swept}
use Rattle.certify.proofs.Ends.{begins, sweeps}
use Rattle.certify.proofs.Entries.{learning}
use Rattle.certify.proofs.Growing.{paired_more, folds_more}
use Rattle.certify.proofs.Tables.{links_upto, roots_upto, folding}
use Rattle.certify.proofs.Turn.{merged_learning, Head, turn}

pub record Running (M : Mealy) (apply : Bool) (xs given known₀ ms known alt root : List ℕ) (cur t s : ℕ)
    (changed : Bool) : Type 0 where
  pub required : SweepRequires M apply xs given known₀
  pub head : Head M apply xs given known₀ ms known alt root cur t s changed

pub starts : {M : Mealy} {apply : Bool} {xs given known₀ : List ℕ} {s : ℕ} → SweepRequires M apply xs given known₀
    → s ≡ M.start
    → Running M apply xs given known₀ given known₀ (replicate most_sequence 0) (replicate byte_states 0) 0 0 s false
starts h se = record { required = h; head = begins h se }

module _ {M : Mealy} {apply : Bool} {xs given known₀ ms known alt root : List ℕ} {cur t s : ℕ} {changed : Bool}
    (h : Running M apply xs given known₀ ms known alt root cur t s changed) where
  -- what the calls ask
  pub running_merge_required : MergeRequires M xs ms alt root s cur t
  running_merge_required =
      let above = h.head.learning.marking.above in
      record {
        folds = folds_more above (folding M xs given h.head.place h.head.linked h.head.topped);
        long = h.head.learning.marking.long;
        bits = h.head.learning.marking.bits;
        low_cur = h.head.low_cur;
        place = h.head.place;
        pair = paired_more above h.head.pair;
        state = h.head.state;
      }

  pub running_ends : {ms' : List ℕ} {changed' : Bool} → length xs ≤ t → Merged M xs ms cur t changed ms' changed'
      → Swept M xs given known₀ ms' known changed'
  running_ends l merged = sweeps h.required h.head l merged

  module _ (tl : t < length xs) where
    -- the state of a place is one of the machine's, and its entry one of the table's
    pub running_state : s < M.n
    running_state =
        rw h.head.state
        (state_stays M h.required.close_requires.proper xs h.required.close_requires.commands.low t)

    pub running_entry : {k e : ℕ} → M.k ≡ k → e ≡ s * k + get_or xs t 0 → e < most_entries
    running_entry {k} {e} ke ee =
        let q : e ≡ s * M.k + get_or xs t 0 = rw ke ee in
        omega (
          arith,
          proper_entry M h.required.close_requires.proper s (get_or xs t 0) running_state
              (h.required.close_requires.commands.low t tl),
        )

    entry_here : {k e : ℕ} → M.k ≡ k → e ≡ s * k + get_or xs t 0 → place_entry M xs t ≡ e
    entry_here ke ee = rw (← h.head.state, ke) (sym ee)

    module _ {k e : ℕ} (ke : M.k ≡ k) (ee : e ≡ s * k + get_or xs t 0) {ms₁ ms₂ known₂ : List ℕ}
        {changed₁ changed₂ : Bool} (merged : Merged M xs ms cur t changed ms₁ changed₁)
        (learnt : Learnt apply ms₁ known e t changed₁ ms₂ known₂ changed₂) where
      pub running_next_required : NextRequires xs ms₂ alt root t cur
      running_next_required = record {
        long =
            (learning h.required tl (running_entry ke ee) (entry_here ke ee)
            (merged_learning h.required h.head.learning merged) learnt).marking.long;
        low_cur = h.head.low_cur;
        place = tl;
        alternatives = links_upto M xs given h.head.linked;
        representatives = roots_upto M xs given h.head.topped;
      }

      pub turns : {alt' root' : List ℕ} {cur' s' : ℕ} → NextRepresented xs ms₂ alt root s t cur alt' root' cur'
          → s' ≡ M.next s (get_or xs t 0)
          → Running M apply xs given known₀ ms₂ known₂ alt' root' cur' (t + 1) s' changed₂
      turns on se =
          let low : s < byte_states = omega (arith, running_state, h.required.close_requires.proper.few_states) in
          let there =
          se ∙ ap (λ (x : ℕ). M.next x (get_or xs t 0)) h.head.state ∙ sym (state_next M xs t tl) in
          record {
            required = h.required;
            head = turn h.required h.head tl low
                (entry_here ke ee) merged learnt on (running_entry ke ee) there;
          }
