-- A stage of a closing begins: each order is under way to its member, or left to send, and nobody has answered.
use Rattle.std.proofs.Common.{◌≡◌, ◌≤◌, ◌<◌, ◌⊎◌, inl, inr, ℕ, ◌+◌, Bool, true, false, List, [], refl, sym, ap, subst}
use Rattle.std.proofs.Common.{arith}
use Rattle.std.specs.Prelude.{None, length}
use Rattle.api_views.specs.declared.closings.Closing.TheVariants.{Gcp}
use Rattle.frag_map.specs.Replicas.{first_start}
use Rattle.frag_map.specs.Shape.{IsShape}
use Rattle.gcp_master.specs.declared.voices.Voice.{Voice}
use Rattle.gcp_master.specs.Sends.{list_effects}
use Rattle.gcp_master.specs.State.{MasterState, all_in}
use Rattle.gcp_master.specs.Voices.{voices_of}
use Rattle.run_theory.specs.Lists.{Each, IsIn}
use Rattle.sig_core.specs.declared.outs.Outgoing.{Outgoing}
use Rattle.world_core.specs.Hosts.{host_for}
use Rattle.world_core.specs.Start.{Start}
use Rattle.peace_laws.specs.Closing.{Course, main}
use Rattle.peace_laws.specs.Moments.{Moment}
use Rattle.peace_laws.specs.UnderWay.{Closes, Commits, CommittedAt, Copies, IsAt, IsMaster, IsOwed, IsTrue, IsUnsent}
use Rattle.peace_laws.specs.UnderWay.{Prepares}
use Rattle.peace_laws.specs.UnderWay.{Saves, Stage, blocks_of, heard_count, is_later, is_ordered, is_saving, order_of}
use Rattle.peace_laws.specs.UnderWay.{order_to, phase_of}
use Rattle.peace_laws.proofs.closings.OrderLists.{list_goes, reaches, stage_in, stage_list, stage_listed}
use Rattle.peace_laws.proofs.closings.Voices.{each_is_in}

some_blocks : (stage : Stage) → 1 ≤ blocks_of stage
some_blocks Prepares = omega arith
some_blocks Commits = omega arith
some_blocks Closes = omega arith
some_blocks Saves = omega arith
some_blocks Copies = omega arith

module _ (start : Start) (shape : IsShape start.shape) (c : Course) (stage : Stage) (after : Moment) (n : MasterState)
    (master : IsMaster start n) (phase : n.phase ≡ phase_of c stage) (front : n.front ≡ None) (voices : n.voices ≡ [])
    (here : Each (λ (one : Outgoing). IsIn one (after.under_way main (host_for start one.to))) (list_effects n 0).sends)
  where
    owed : (place : ℕ) → place < start.shape.nodes → (rows : Bool) → is_ordered stage rows ≡ true
        → IsOwed start c stage after n place rows
    owed place low rows ordered =
        go
        (list_goes start c shape after n 0 master.member (stage_listed start c n master stage phase front) here
        (order_to (order_of start c stage) place rows)
        (subst (IsIn (order_to (order_of start c stage) place rows))
        (sym (stage_list start c n master stage phase front)) (stage_in start c stage place low rows ordered)))
      where
        go : IsIn (order_to (order_of start c stage) place rows)
            (after.under_way main (host_for start (order_to (order_of start c stage) place rows).to))
            ⊎ IsUnsent start after n (order_to (order_of start c stage) place rows)
            → IsOwed start c stage after n place rows
        go (inl coming) =
            inr (inr (inl (subst (λ j. IsIn (order_to (order_of start c stage) place rows) (after.under_way main j))
            (reaches start (order_of start c stage) place rows low) coming)))
        go (inr left) = inr (inr (inr left))

    none_in : (b : Bool) → all_in (blocks_of stage) n ≡ b → all_in (blocks_of stage) n ≡ false
    none_in false is = is
    none_in true is =
        absurd
        (omega (
          arith,
          each_is_in start n master.view (blocks_of stage) is 0 shape.nodes_some,
          ap (λ (all : List Voice). voices_of all (first_start (0 + 1))) voices,
          some_blocks stage,
        ))

    pub stage_begins : (is_later stage ≡ true → (place : ℕ) → place < start.shape.nodes → CommittedAt c after place)
        → (is_saving stage ≡ true → c.kind ≡ Gcp) → IsAt start c stage after n
    stage_begins committed global = record {
      phase_is = phase;
      front = front;
      owed = owed;
      heard = subst (Each (IsTrue start c after stage)) (sym voices) tt;
      few = subst (λ (all : List Voice).
          length all ≤ heard_count all false start.shape.nodes + heard_count all true start.shape.nodes) (sym voices)
          (omega arith);
      missing = none_in (all_in (blocks_of stage) n) refl;
      committed = committed;
      global = global;
    }
