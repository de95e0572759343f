-- A walk passes rows, and goes on beside whatever else goes on at the rows.
use Rattle.std.proofs.Common.{◌≡◌, ◌≤◌, ◌+◌, ◌==◌, ◌∙◌, ◌++◌, ℕ, zero, suc, Bool, true, false, List, [], ◌∷◌, length}
use Rattle.std.proofs.Common.{refl}
use Rattle.std.proofs.Common.{sym, ap, arith}
use Rattle.std.proofs.lemmas.Bool.{ne_eqb}
use Rattle.std.proofs.lemmas.List.{length-append}
use Rattle.std.specs.Prelude.{if◌then◌else◌, Option, None, Some, option_to_list}
use Rattle.std.specs.List.{flat_map}
use Rattle.sig_core.specs.Checkpoint.{row_bytes}
use Rattle.sig_core.specs.declared.member.Member.{Member}
use Rattle.sig_core.specs.declared.piece.Piece.{Piece}
use Rattle.sig_core.specs.Passing.{passed_from}
use Rattle.sig_core.specs.Rows.{RowsState, next_place}
use Rattle.sig_core.specs.Walk.{WalkState, head_at, next_bytes, next_piece, stepped}
use Rattle.local_ckpt.specs.Events.{Abort, Commit, Complete, Event, Moment, Prepare, Step, given_by, next, noting_if}
use Rattle.local_ckpt.specs.Events.{stepped_by}
use Rattle.local_ckpt.specs.Laws.{at_first}
use Rattle.local_ckpt.specs.Orderly.{image_in}
use Rattle.lqh_saver.specs.declared.stage.Todo.TheVariants.{Nothing, Write}
use Rattle.world_core.specs.Start.{Start}
use Rattle.world_core.specs.Steps.{HostStep}
use Rattle.journal_laws.specs.Checkpoints.{Portions, before_walk, end_of_walk, records_at_walk}
use Rattle.journal_laws.specs.Checkpoints.{rows_at_walk, until_end, whole}
use Rattle.journal_laws.specs.Events.{rows_behind}
use Rattle.journal_laws.specs.Journal.{first_rows, lqh_after}
use Rattle.journal_laws.specs.Saver.{IsNoStep, todo_at, written, written_by}
use Rattle.journal_laws.specs.Walks.{IsOnItsWay, pieces_if}
use Rattle.journal_laws.proofs.events.HostEvents.{HasCome}
use Rattle.journal_laws.proofs.walks.Appending.{rows_are}

-- the walk of a moment, had it noted this epoch
abbrev walk_noting : Moment → ℕ → WalkState
walk_noting m epoch = record m.walk { epoch = epoch }

-- an event that is none of its steps leaves a walk where it was
record IsQuiet (event : Event) (m : Moment) (epoch : ℕ) : Type 0 where
  walk : walk_noting (next event m) epoch ≡ walk_noting m epoch
  pieces : (next event m).pieces ≡ m.pieces

noting_same : (w : WalkState) (epoch at : ℕ) (o : Option (Option (List ℕ)))
    → record (noting_if w at o) { epoch = epoch } ≡ record w { epoch = epoch }
noting_same w epoch at None = refl
noting_same w epoch at (Some image) = refl

is_quiet : (event : Event) → IsNoStep (Some event) → (m : Moment) (epoch : ℕ) → IsQuiet event m epoch
is_quiet (Prepare tx fragment key image) none m epoch = record { walk = refl; pieces = refl }
is_quiet (Commit tx key at) none m epoch =
    record { walk = noting_same m.walk epoch at (image_in m.rows tx key); pieces = refl }
is_quiet (Abort tx key) none m epoch = record { walk = refl; pieces = refl }
is_quiet (Complete tx key) none m epoch = record { walk = refl; pieces = refl }
is_quiet Step none m epoch = absurd none

-- a piece has bytes
size_some : (s : RowsState) (w : WalkState) → (w.size + length (next_bytes s w) == 0) ≡ false
size_some s w = by w.size refl
  where
    rows : List ℕ
    rows = flat_map row_bytes (passed_from s w.place).rows

    none : (n : ℕ) → 1 ≤ n → (n == 0) ≡ false
    none n some = ne_eqb n 0 (λ is. omega (arith, some, is))

    by : (size : ℕ) → w.size ≡ size → (w.size + length (next_bytes s w) == 0) ≡ false
    by zero is =
        let long : length (next_bytes s w) ≡ length (head_at 0 ++ rows) =
        ap (λ (n : ℕ). length (head_at n ++ rows)) is in
        let head : length (head_at 0 ++ rows) ≡ length (head_at 0) + length rows = length-append (head_at 0) rows in
        let two : length (head_at 0) ≡ 2 = refl in
        none (w.size + length (next_bytes s w)) (omega (arith, long, head, two))
    by (suc size) is = none (w.size + length (next_bytes s w)) (omega (arith, is))

module _ (start : Start) (member : Member) (log : List HostStep) (events : List Event) (e : HostStep) where
  abbrev rows_first : RowsState
  rows_first = first_rows start member

  -- nothing was to be done of the step
  pub written_same : todo_at start member e log ≡ Nothing
      → written start member (e ∷ log) ≡ written start member log
  written_same nothing = ap (λ it. written_by it (written start member log)) nothing

  module _ (walk : WalkState) (way : IsOnItsWay start member log events walk) where
    abbrev p : Portions
    p = way.portions

    abbrev m : Moment
    m = end_of_walk rows_first p 0 walk.from walk.epoch

    -- all that went on, since nothing follows the walk
    pub until_now : events ≡ until_end p
    until_now = way.is ∙ ap (λ (later : List Event). later ++ until_end p) way.none_later

    -- so much more went on with it
    abbrev with_more : Option Event → Portions
    with_more event =
        record { later = []; meanwhile = option_to_list event ++ p.meanwhile; nearer = p.nearer; gone = p.gone }

    more_is : (event : Option Event) → option_to_list event ++ events ≡ whole (with_more event)
    more_is None = until_now
    more_is (Some event) = ap (λ (all : List Event). event ∷ all) until_now

    -- the rows go on
    pub goes_on_beside : (event : Option Event) → IsNoStep event → todo_at start member e log ≡ Nothing
        → IsOnItsWay start member (e ∷ log) (option_to_list event ++ events) walk
    goes_on_beside event none nothing = record {
      portions = with_more event;
      none_later = refl;
      is = more_is event;
      began = record { from = way.began.from; prepares = way.began.prepares };
      walk_is = stands event none;
      pieces = given event none ∙ way.pieces ∙ ap (pieces_if walk.size) (sym (written_same nothing));
    }
      where
        stands : (event : Option Event) → IsNoStep event
            → walk ≡ walk_noting (end_of_walk rows_first (with_more event) 0 walk.from walk.epoch) walk.epoch
        stands None none = way.walk_is
        stands (Some event) none = way.walk_is ∙ sym (is_quiet event none m walk.epoch).walk

        given : (event : Option Event) → IsNoStep event
            → (end_of_walk rows_first (with_more event) 0 walk.from walk.epoch).pieces ≡ m.pieces
        given None none = refl
        given (Some event) none = (is_quiet event none m walk.epoch).pieces

    -- the rows of the walk are those of the member
    module _ (come : HasCome rows_first (lqh_after start member log) events) where
      pub walk_rows : m.rows ≡ (lqh_after start member log).rows
      walk_rows =
          rows_are (at_first (rows_at_walk rows_first p) (records_at_walk rows_first p) 0 walk.from walk.epoch)
          rows_first (before_walk p) refl p.meanwhile
          ∙ sym (ap (rows_behind rows_first) until_now) ∙ sym come.rows

      pub walk_place : m.walk.place ≡ walk.place
      walk_place = sym (ap (λ (w : WalkState). w.place) way.walk_is)

      abbrev rows_now : RowsState
      rows_now = (lqh_after start member log).rows

      pub next_is : next_place m.rows m.walk.place ≡ next_place rows_now walk.place
      next_is = λ i. next_place (walk_rows i) (walk_place i)

      abbrev piece : Piece
      piece = next_piece rows_now walk

      piece_is : next_piece m.rows m.walk ≡ piece
      piece_is = λ i. next_piece (walk_rows i) (sym way.walk_is i)

      walk_steps : stepped rows_now walk ≡ stepped m.rows (walk_noting m walk.epoch)
      walk_steps = λ i. stepped (sym walk_rows i) (way.walk_is i)

      -- it passes some rows, and a piece is to be written
      pub passes_on : (at : ℕ) → next_place rows_now walk.place ≡ Some at → todo_at start member e log ≡ Write piece
          → IsOnItsWay start member (e ∷ log) (Step ∷ events) (stepped rows_now walk)
      passes_on at some writes = record {
        portions = with_more (Some Step);
        none_later = refl;
        is = more_is (Some Step);
        began = record { from = way.began.from; prepares = way.began.prepares };
        walk_is =
            walk_steps
            ∙ ap (λ (o : Option ℕ). record (stepped_by m.rows m.walk o) { epoch = walk.epoch }) (sym (next_is ∙ some));
        pieces =
            ap (given_by m.rows m.walk m.pieces) (next_is ∙ some)
            ∙ (λ i. way.pieces i ++ piece_is i ∷ [])
            ∙ behind (walk.size == 0) refl
            ∙ sym (ap (λ (b : Bool). if b then [] else written start member (e ∷ log)) (size_some rows_now walk));
      }
        where
          now_written : written start member (e ∷ log)
              ≡ (if walk.size == 0 then piece ∷ [] else written start member log ++ piece ∷ [])
          now_written = ap (λ it. written_by it (written start member log)) writes

          behind : (b : Bool) → (walk.size == 0) ≡ b
              → pieces_if walk.size (written start member log) ++ piece ∷ [] ≡ written start member (e ∷ log)
          behind true is =
              ap (λ (b : Bool). (if b then [] else written start member log) ++ piece ∷ []) is
              ∙ sym (now_written
              ∙ ap (λ (b : Bool). if b then piece ∷ [] else written start member log ++ piece ∷ []) is)
          behind false is =
              ap (λ (b : Bool). (if b then [] else written start member log) ++ piece ∷ []) is
              ∙ sym (now_written
              ∙ ap (λ (b : Bool). if b then piece ∷ [] else written start member log ++ piece ∷ []) is)
