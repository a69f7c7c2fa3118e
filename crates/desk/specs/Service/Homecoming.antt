-- Units whose table is isomorphic to the sheet's (§13.3): begun in any state, with the unit's own answers as input, the
-- dialogue has at most L + n - 1 commands and ends with home, never with stranger, and the unit is then in the state
-- that is assigned to the start.
use Rattle.std.specs.Prelude.{ℕ, zero, suc, ◌+◌, ◌≤◌, ◌<◌, ◌≡◌, refl, List, [], ◌∷◌, ◌++◌, length, get_or, take, drop}
use Rattle.std.proofs.Common.{sym, ap, ◌∙◌, inl, inr, append_assoc, append-nil, arith, length-append, take_all}
use Rattle.std.proofs.Common.{length-take-le, take-suc, drop-cons}
use Rattle.std.proofs.Math.ListN.{get_or-append}
use Rattle.std.proofs.Math.Seq.{take-length, drop-length}
use Rattle.facts.specs.Numbers.{less_or_not}
use Rattle.facts.specs.Lists.{Below, low_append, low_take}
use Rattle.sheet.specs.Check.{first_cause, Clear}
use Rattle.desk.specs.First.{Command as FirstCommand}
use Rattle.sheet.specs.Reader.{word_in}
use Rattle.machine.specs.Machine.{Mealy, run, answers, Proper}
use Rattle.machine.specs.Machine.Laws.{run_append, answers_none, answers_cons, answers_append, answers_length}
use Rattle.machine.specs.Causes.{machine_in}
use Rattle.machine.specs.Unit.{Unit, table_of, own_answers, present_state, Isomorphism}
use Rattle.machine.specs.Unit.Laws.{assigned_run, assigned_alike}
use Rattle.build.specs.Building.{connected_causes}
use Rattle.desk.specs.declared.desk.Desk.{Desk}
use Rattle.desk.specs.declared.desk.Order.{Order}
use Rattle.desk.specs.declared.desk.Order.TheVariants.{Command, Home}
use Rattle.desk.specs.declared.starting.Started.{Started}
use Rattle.desk.specs.declared.stepping.Stepped.{Stepped}
use Rattle.desk.specs.Desk.{Course, course, order_of}
use Rattle.desk.specs.Desk.Laws.{order_reading, course_short, along_command, along_home}
use Rattle.desk.specs.Desk.Agreement.{Suited, clear_suited, course_course, course_along}
use Rattle.desk.specs.Service.{order_on, Starts, Steps}
use Rattle.desk.specs.Service.Dialogue.{Dialogue, begun, continued, dialogue_reached, dialogue_order}

-- ---- what is said
-- the dialogue with a unit: start, then each command that is ordered goes to the unit, and its answer to step. The list
-- is that of the commands sent
pub data UnitDialogue (s : List ℕ) (U : Unit (machine_in s).n (machine_in s).k) : List ℕ → Desk → Order → Type 0 where
  started : {c : ℕ} (r : Started) → Starts s r → r.first ≡ FirstCommand c → UnitDialogue s U [] r.desk (Command c)
  sent : {xs : List ℕ} {d : Desk} {c : ℕ} (r : Stepped) → UnitDialogue s U xs d (Command c)
      → Steps d (U.answer (present_state (machine_in s).n (machine_in s).k U xs) c) r
      → UnitDialogue s U (xs ++ (c ∷ [])) r.desk r.order

-- how the dialogue with a unit whose table is isomorphic to the sheet's stands after the commands xs: one more is to be
-- sent, which is at most the (L + n - 1)-th; or it is at home, after as many commands as it says and at most that many,
-- and the unit is in the state that is assigned to the start. Stranger is not among them
pub data Brought (s : List ℕ) (U : Unit (machine_in s).n (machine_in s).k) (r : Isomorphism (machine_in s) U)
    (xs : List ℕ) : Order → Type 0 where
  under_way : {c : ℕ} → length xs + 1 < length (word_in s) + (machine_in s).n → Brought s U r xs (Command c)
  at_home : {n : ℕ} → n ≡ length xs → length xs + 1 ≤ length (word_in s) + (machine_in s).n
      → present_state (machine_in s).n (machine_in s).k U xs ≡ r.assigned (machine_in s).start
      → Brought s U r xs (Home n)

-- ---- over the definition of the orders
-- the orders to the answers of a state along its course: its commands, then home
module _ (M : Mealy) (w : List ℕ) (suited : Suited M w) (s : ℕ) (xs : List ℕ) (h : Course M w s xs) where
  answered : (i : ℕ) → i ≤ length xs → length (answers M s (take i xs)) ≡ i
  answered i l = answers_length M s (take i xs) ∙ length-take-le i xs l

  pub course_asks : (i : ℕ) → i < length xs → order_of M w (answers M s (take i xs)) ≡ Command (get_or xs i 0)
  course_asks i l = elim (less_or_not i (length w)) [
    | inl low ↦ (let size = answered i (omega arith) in
        rw (order_reading M w (answers M s (take i xs)) (omega arith), size, h.commands, get_or-append))
    | inr k ↦ along_command M w (course_along M w suited s xs h i k) (get_or xs i 0) (drop (suc i) xs)
        (drop-cons xs i 0 l) suited.word.separates
  ]

  pub course_home : order_of M w (answers M s xs) ≡ Home (length xs)
  course_home =
      let long : length w ≤ length xs = omega (arith, ap length h.commands, length-append w h.homeward) in
      let at-end = course_along M w suited s xs h (length xs) long in
      rw take-length at (along_home M w at-end suited.word.separates (drop-length xs))

-- ---- and of the dialogue
module _ (s : List ℕ) (U : Unit (machine_in s).n (machine_in s).k) where
  abbrev unit : Mealy
  unit = table_of (machine_in s).n (machine_in s).k U

  abbrev own : List ℕ → List ℕ
  own = own_answers (machine_in s).n (machine_in s).k U

  own_more : (xs : List ℕ) (c : ℕ) → own (xs ++ (c ∷ [])) ≡ own xs ++ (U.answer (run unit U.u xs) c ∷ [])
  own_more xs c = rw (answers_append, answers_cons, answers_none)

  -- it is one with the unit's own answers
  pub unit_dialogue : {xs : List ℕ} {d : Desk} {o : Order} → UnitDialogue s U xs d o → Dialogue s (own xs) d o
  unit_dialogue (started r h e) = rw (answers_none unit U.u) (begun r h e)
  unit_dialogue (sent {xs} {d} {c} r g h) =
      rw (own_more xs c) (continued (U.answer (run unit U.u xs) c) r (unit_dialogue g) h)

  module _ (iso : Isomorphism (machine_in s) U) (clear : first_cause (connected_causes s) ≡ Clear) where
    abbrev M : Mealy
    M = machine_in s

    abbrev w : List ℕ
    w = word_in s

    suited : Suited M w
    suited = clear_suited s clear

    abbrev proper : Proper M
    proper = suited.proper

    -- the state of the sheet in which the unit began
    first : (b : ℕ) × (b < M.n) × (iso.assigned b ≡ U.u)
    first = iso.onto U.u U.u_low

    -- its course
    all : List ℕ
    all = course M w first.0

    way : Course M w first.0 all
    unfolding all
    way = course_course M w suited first.0 first.1

    all_short : length all + 1 ≤ length w + M.n
    unfolding all
    all_short = course_short M w first.0 proper.some_states

    all_low : Below M.k all
    all_low =
        rw way.commands
        (low_append M.k w way.homeward suited.word.commands.low way.drives.is.has.commands)

    -- to commands of the sheet it gives the answers of that state
    own_are : (xs : List ℕ) → Below M.k xs → own xs ≡ answers M first.0 xs
    own_are xs b = rw first.2 at (assigned_alike M proper U iso xs first.0 first.1 b)

    asks : (i : ℕ) → i < length all → order_on s (own (take i all)) ≡ Command (get_or all i 0)
    asks i l =
        rw (own_are (take i all) (low_take M.k i all all_low)) (course_asks M w suited first.0 all way i l)

    homes : order_on s (own all) ≡ Home (length all)
    homes = rw (own_are all all_low) (course_home M w suited first.0 all way)

    -- there it is in the state assigned to the start
    stands : present_state M.n M.k U all ≡ iso.assigned M.start
    stands =
        let ends : run M first.0 all ≡ M.start = rw (way.commands, run_append) way.drives.is.has.ends in
        rw (first.2, ends) at (assigned_run M proper U iso all first.0 first.1 all_low)

    -- the commands sent are those of its course
    record OnWay (xs : List ℕ) : Type 0 where
      few : length xs ≤ length all
      front : xs ≡ take (length xs) all

    -- one command more, where there is one
    one_more : {xs : List ℕ} {d : Desk} {c : ℕ} → Dialogue s (own xs) d (Command c) → OnWay xs
        → OnWay (xs ++ (c ∷ []))
    one_more {xs} {d} {c} g h =
        let is = dialogue_order s g ∙ ap (λ (x : List ℕ). order_on s (own x)) h.front in
        elim (less_or_not (length xs) (length all)) [
          | inl l ↦ (let next : c ≡ get_or all (length xs) 0 = cc (is ∙ asks (length xs) l) in
              let long : length (xs ++ (c ∷ [])) ≡ suc (length xs) = omega (arith, length-append xs (c ∷ [])) in
              record { few = omega arith; front = rw (long, take-suc all (length xs) 0 l, ← h.front, next) })
          | inr l ↦ (let impossible : ◌≡◌ {A = ℕ} 0 1 = cc ((rw take_all at is) ∙ homes) in absurd (omega arith))
        ]

    on_way : {xs : List ℕ} {d : Desk} {o : Order} → UnitDialogue s U xs d o → OnWay xs
    on_way (started r h e) = record { few = omega arith; front = refl }
    on_way (sent {xs} {d} {c} r g h) = one_more (unit_dialogue g) (on_way g)

    brought : {xs : List ℕ} {d : Desk} {o : Order} → Dialogue s (own xs) d o → OnWay xs → Brought s U iso xs o
    brought {xs} g h =
        let is = dialogue_order s g ∙ ap (λ (x : List ℕ). order_on s (own x)) h.front in
        elim (less_or_not (length xs) (length all)) [
          | inl l ↦ rw (is ∙ asks (length xs) l) (under_way (omega (arith, all_short)))
          | inr l ↦ (let these : xs ≡ all = h.front ∙ take_all (length xs) all l in
              rw (dialogue_order s g, these, homes) (at_home refl all_short stands))
        ]

-- the claim (§13.3)
pub brought_home : (s : List ℕ) (U : Unit (machine_in s).n (machine_in s).k) (r : Isomorphism (machine_in s) U)
    {xs : List ℕ} {d : Desk} {o : Order} → UnitDialogue s U xs d o → Brought s U r xs o
brought_home s U r g =
    let clear = (dialogue_reached s (unit_dialogue s U g)).clear in
    brought s U r clear (unit_dialogue s U g) (on_way s U r clear g)

-- ---- the end of such a dialogue, which stands at the commands xs: these and further ones, at most L + n - 1 in all,
-- after which it is at home and the unit in the state assigned to the start
pub record EndsHome (s : List ℕ) (U : Unit (machine_in s).n (machine_in s).k) (r : Isomorphism (machine_in s) U)
    (xs : List ℕ) : Type 0 where
  pub commands : List ℕ
  pub further : List ℕ
  pub extends : commands ≡ xs ++ further
  pub desk : Desk
  pub dialogue : UnitDialogue s U commands desk (Home (length commands))
  pub few : length commands + 1 ≤ length (word_in s) + (machine_in s).n
  pub stands : present_state (machine_in s).n (machine_in s).k U commands ≡ r.assigned (machine_in s).start

-- step returns whenever it is called, by its proof: so each dialogue with the unit goes on to that end
module _ (s : List ℕ) (U : Unit (machine_in s).n (machine_in s).k) (r : Isomorphism (machine_in s) U)
    (returns : (xs : List ℕ) (d : Desk) (c : ℕ) → UnitDialogue s U xs d (Command c)
    → (t : Stepped) × Steps d (U.answer (present_state (machine_in s).n (machine_in s).k U xs) c) t) where
  -- it is there
  ends_here : {xs : List ℕ} {d : Desk} {n : ℕ} → UnitDialogue s U xs d (Home n) → n ≡ length xs
      → length xs + 1 ≤ length (word_in s) + (machine_in s).n
      → present_state (machine_in s).n (machine_in s).k U xs ≡ r.assigned (machine_in s).start → EndsHome s U r xs
  ends_here {xs} {d} g e k q = record {
    commands = xs;
    further = [];
    extends = sym (append-nil xs);
    desk = d;
    dialogue = rw (← e) g;
    few = k;
    stands = q;
  }

  -- or comes there after further commands
  ends_within : (left : ℕ) {xs : List ℕ} {d : Desk} {o : Order}
      → length (word_in s) + (machine_in s).n ≤ length xs + 1 + left → UnitDialogue s U xs d o → Brought s U r xs o
      → EndsHome s U r xs
  ends_within zero l g (under_way k) = let z : ⊥ = omega arith in absurd z
  ends_within zero l g (at_home e k q) = ends_here g e k q
  ends_within (suc left) {xs} {d} l g (under_way {c} k) =
      let t = returns xs d c g in
      let h = sent t.0 g t.1 in
      let e = ends_within left (omega (arith, length-append xs (c ∷ []))) h (brought_home s U r h) in
      record {
        commands = e.commands;
        further = c ∷ e.further;
        extends = e.extends ∙ append_assoc xs (c ∷ []) e.further;
        desk = e.desk;
        dialogue = e.dialogue;
        few = e.few;
        stands = e.stands;
      }
  ends_within (suc left) l g (at_home e k q) = ends_here g e k q

  pub ends_home : {xs : List ℕ} {d : Desk} {o : Order} → UnitDialogue s U xs d o → EndsHome s U r xs
  ends_home g = ends_within (length (word_in s) + (machine_in s).n) (omega arith) g (brought_home s U r g)
