-- What the president's master has to send in a closing: an order to each member, or the report of the end.
use Rattle.std.proofs.Common.{◌≡◌, ◌≤◌, ◌<◌, ◌⊎◌, ◌∙◌, ◌++◌, inl, inr, ℕ, zero, suc, ◌+◌, Bool, true, false, List, []}
use Rattle.std.proofs.Common.{◌∷◌, refl, sym}
use Rattle.std.proofs.Common.{ap, subst, map, length, length-append, arith}
use Rattle.std.proofs.lemmas.Bool.{cases_lt, false≢true}
use Rattle.std.proofs.lemmas.Bool.Decides.{nat_tests}
use Rattle.std.proofs.lemmas.List.{append-nil, drop-append-le, drop-drop, length-map, take-append-drop}
use Rattle.std.specs.Prelude.{nat_lt, drop, take, Option, None, Some}
use Rattle.api_views.specs.declared.closings.Closing.{Closing}
use Rattle.api_views.specs.declared.closings.Closing.TheVariants.{Gcp, Micro, Lcp}
use Rattle.frag_map.specs.Layout.{members}
use Rattle.frag_map.specs.Replicas.{first_start}
use Rattle.frag_map.specs.Shape.{IsShape}
use Rattle.gcp_master.specs.declared.orders.Ended.{Ended}
use Rattle.gcp_master.specs.declared.orders.Order.{Order}
use Rattle.gcp_master.specs.declared.orders.Order.TheVariants as order
use Rattle.gcp_master.specs.declared.phase.Phase.{Phase}
use Rattle.gcp_master.specs.declared.phase.Phase.TheVariants.{Resting}
use Rattle.gcp_master.specs.Sends.{front_sends, list_effects, master_sends, order_at, orders_at, phase_sends, to_both}
use Rattle.gcp_master.specs.Sends.{to_each}
use Rattle.gcp_master.specs.State.{MasterState}
use Rattle.run_theory.specs.Lists.{Each, IsIn}
use Rattle.run_theory.proofs.EachSent.{each_drop, each_take}
use Rattle.run_theory.proofs.Pasts.{each_append, each_in, in_append}
use Rattle.sig_core.specs.declared.member.Member.{Member}
use Rattle.sig_core.specs.declared.outs.Outgoing.{Outgoing}
use Rattle.sig_core.specs.declared.place.BlockId.TheVariants as block
use Rattle.sig_core.specs.declared.portion.TheConstants.{PORTION}
use Rattle.sig_core.specs.declared.signal.Body.TheVariants.{Epoch}
use Rattle.sig_core.specs.declared.signal.host.Work.TheVariants.{Members}
use Rattle.sig_core.specs.declared.view.View.{View}
use Rattle.sig_core.specs.Place.{checkpoints, client}
use Rattle.sig_core.specs.Portion.{go_on_at, portion, rest, rest_if}
use Rattle.sig_core.specs.Step.{to_place}
use Rattle.world_core.proofs.HostNumbers.{members_length, node_host}
use Rattle.world_core.specs.Hosts.{host_for, receiver}
use Rattle.world_core.specs.Start.{Start}
use Rattle.view_laws.proofs.ballots.MadeSets.{in_either, in_front}
use Rattle.calm_laws.specs.Alike.{first}
use Rattle.peace_laws.specs.Closing.{Course, host_in, main}
use Rattle.peace_laws.specs.Moments.{Moment}
use Rattle.peace_laws.specs.UnderWay.{AReport, AnOrder, GoingOn, IsMaster, HasMask, IsOrder, IsUnsent, Stage, block_of}
use Rattle.peace_laws.specs.UnderWay.{ended_by, ended_of}
use Rattle.peace_laws.specs.UnderWay.{going_on, is_ordered, order_of, order_to, phase_of, report_by, report_of}
use Rattle.peace_laws.specs.UnderWay.{Prepares, Commits, Closes, Saves, Copies}

in_mapped : {A B : Type 0} (f : A → B) (x : A) (xs : List A) → IsIn x xs → IsIn (f x) (map f xs)
in_mapped f x [] is = absurd is
in_mapped f x (y ∷ xs) (inl same) = inl (ap f same)
in_mapped f x (y ∷ xs) (inr later) = inr (in_mapped f x xs later)

-- what is left of a list stands in the next portion of it, or is left behind that
pub portion_or_rest : (sends : List Outgoing) (at : ℕ) (one : Outgoing) → IsIn one (drop at sends)
    → IsIn one (portion sends at) ⊎ IsIn one (drop (at + PORTION) sends)
portion_or_rest sends at one is =
    subst (λ (rest : List Outgoing). IsIn one (portion sends at) ⊎ IsIn one rest) (drop-drop PORTION at sends)
    (in_either one (take PORTION (drop at sends)) (drop PORTION (drop at sends))
    (subst (IsIn one) (sym (take-append-drop PORTION (drop at sends))) is))

nothing_left : (sends : List Outgoing) (at : ℕ) (one : Outgoing) → length sends ≤ at → IsIn one (drop at sends) → ⊥
nothing_left [] zero one over is = is
nothing_left [] (suc at) one over is = is
nothing_left (x ∷ sends) zero one over is = omega (arith, over)
nothing_left (x ∷ sends) (suc at) one over is = nothing_left sends at one (omega (arith, over)) is

pub left_below : (sends : List Outgoing) (at : ℕ) (one : Outgoing) → IsIn one (drop at sends) → at < length sends
left_below sends at one is = go (cases_lt at (length sends))
  where
    go : (at < length sends) ⊎ (length sends ≤ at) → at < length sends
    go (inl below) = below
    go (inr over) = absurd (nothing_left sends at one over is)

-- the members that begin a life
each_member : (P : Member → Type 0) (n : ℕ) → ((place : ℕ) → place < n → P (first_start (place + 1)))
    → Each P (members n)
each_member P zero is = tt
each_member P (suc n) is =
    each_append P (members n) (first_start (n + 1) ∷ [])
    (each_member P n (λ place low. is place (omega (arith, low)))) (is n (omega arith), tt)

pub in_members : (n place : ℕ) → place < n → IsIn (first_start (place + 1)) (members n)
in_members zero place low = absurd (omega (arith, low))
in_members (suc n) place low = go (in_members n place) (cases_lt place n)
  where
    go : (place < n → IsIn (first_start (place + 1)) (members n)) → (place < n) ⊎ (n ≤ place)
        → IsIn (first_start (place + 1)) (members n ++ first_start (n + 1) ∷ [])
    go before (inl below) =
        in_front (first_start (place + 1)) (members n) (first_start (n + 1) ∷ []) (before below)
    go before (inr last) =
        let same : place ≡ n = omega (arith, low, last) in
        in_append (first_start (place + 1)) (members n) (first_start (n + 1) ∷ [])
        (inl (ap (λ k. first_start (k + 1)) same))

lt_of : (m n : ℕ) → nat_lt m n ≡ true → m < n
lt_of m n is = grind (arith, nat_tests, is)

-- where what is for a member goes
pub reaches : (start : Start) (order : Order) (place : ℕ) (rows : Bool) → place < start.shape.nodes
    → host_for start (order_to order place rows).to ≡ host_in place rows
reaches start order place false low =
    node_host start (record { node = place + 1; block = block.Dih }) (omega arith) (omega (arith, low)) ∙ omega arith
reaches start order place true low =
    node_host start (record { node = place + 1; block = block.Lqh }) (omega arith) (omega (arith, low)) ∙ omega arith

pub main_reached : (start : Start) → IsShape start.shape → host_for start (checkpoints 1) ≡ main
main_reached start shape = node_host start (checkpoints 1) (omega arith) shape.nodes_some ∙ omega arith

pub client_reached : (start : Start) → host_for start client ≡ 0
unfolding receiver
client_reached start = refl

module _ (start : Start) (c : Course) where
  -- what the master may send, but for its own signals
  abbrev pub IsSent : Outgoing → Type 0
  IsSent one =
      AnOrder start c main (host_for start one.to) one ⊎ AReport c main (host_for start one.to) one

  orders_sent : (rows : Bool) (order : Order) → IsOrder c order → HasMask start order
      → Each IsSent (orders_at (block_of rows) order (members start.shape.nodes))
  orders_sent rows order fits mask =
      go (members start.shape.nodes)
      (each_member (λ member. IsSent (order_at (block_of rows) order member)) start.shape.nodes
      (λ place low.
      inl (record {
        place = place;
        low = low;
        rows = rows;
        order = order;
        fits = fits;
        mask = mask;
        from = refl;
        to = reaches start order place rows low;
        is = refl;
      })))
    where
      go : (ms : List Member) → Each (λ member. IsSent (order_at (block_of rows) order member)) ms
          → Each IsSent (orders_at (block_of rows) order ms)
      go [] all = tt
      go (m ∷ ms) all = (all.0, go ms all.1)

  each_sent : (rows : Bool) (order : Order) → IsOrder c order → HasMask start order
      → Each IsSent (to_each (block_of rows) order (first start))
  unfolding to_each
  each_sent rows order fits mask =
      each_append IsSent (orders_at (block_of rows) order (members start.shape.nodes)) []
      (orders_sent rows order fits mask) tt

  both_sent : (order : Order) → IsOrder c order → HasMask start order → Each IsSent (to_both order (first start))
  unfolding to_both
  both_sent order fits mask =
      each_append IsSent (to_each block.Dih order (first start)) (to_each block.Lqh order (first start))
      (each_sent false order fits mask) (each_sent true order fits mask)

  stage_sent : (stage : Stage) → Each IsSent (phase_sends (first start) (phase_of c stage))
  unfolding phase_sends
  stage_sent Prepares = each_sent false (order.Prepare c.epoch c.next) (refl, refl) tt
  stage_sent Commits = each_sent false (order.Commit c.epoch c.next) (refl, refl) tt
  stage_sent Closes = both_sent (order.Close c.epoch) tt tt
  stage_sent Saves = each_sent true (order.Save c.epoch) tt tt
  stage_sent Copies = each_sent false (order_of start c Copies) tt refl

  report_sent : (kind : Closing) → c.kind ≡ kind → IsSent (to_place client (Epoch (report_by c.epoch kind)))
  report_sent kind is =
      inr (record {
        from = refl;
        to = client_reached start;
        is = ap (λ (k : Closing). to_place client (Epoch (report_by c.epoch k))) (sym is);
      })

  front_sent : (kind : Closing) → c.kind ≡ kind
      → Each IsSent (front_sends 1 (first start) (Some (ended_by c.epoch kind)))
  unfolding front_sends
  front_sent Gcp is =
      each_append IsSent (to_both (order.Done c.epoch) (first start)) _ (both_sent (order.Done c.epoch) tt tt)
      (report_sent Gcp is, tt)
  front_sent Micro is = (report_sent Micro is, tt)
  front_sent Lcp is =
      each_append IsSent (to_both (order.Done c.epoch) (first start)) _ (both_sent (order.Done c.epoch) tt tt)
      (report_sent Lcp is, tt)

  -- how many there are
  each_many : (rows : Bool) (order : Order)
      → length (to_each (block_of rows) order (first start)) ≡ start.shape.nodes
  unfolding to_each
  each_many rows order =
      ap length (append-nil (orders_at (block_of rows) order (members start.shape.nodes)))
      ∙ length-map (members start.shape.nodes) (order_at (block_of rows) order)
      ∙ members_length start.shape.nodes

  both_many : (order : Order) → length (to_both order (first start)) ≡ start.shape.nodes + start.shape.nodes
  unfolding to_both
  both_many order =
      omega (
        arith,
        length-append (to_each block.Dih order (first start)) (to_each block.Lqh order (first start)),
        each_many false order,
        each_many true order,
      )

  stage_many : (stage : Stage)
      → length (phase_sends (first start) (phase_of c stage)) ≤ start.shape.nodes + start.shape.nodes
  unfolding phase_sends
  stage_many Prepares = omega (arith, each_many false (order.Prepare c.epoch c.next))
  stage_many Commits = omega (arith, each_many false (order.Commit c.epoch c.next))
  stage_many Closes = omega (arith, both_many (order.Close c.epoch))
  stage_many Saves = omega (arith, each_many true (order.Save c.epoch))
  stage_many Copies = omega (arith, each_many false (order_of start c Copies))

  -- an order for each member stands there
  order_in : (rows : Bool) (order : Order) (place : ℕ) → place < start.shape.nodes
      → IsIn (order_to order place rows) (to_each (block_of rows) order (first start))
  unfolding to_each
  order_in rows order place low =
      in_front (order_to order place rows) (orders_at (block_of rows) order (members start.shape.nodes)) []
      (in_mapped (order_at (block_of rows) order) (first_start (place + 1)) (members start.shape.nodes)
      (in_members start.shape.nodes place low))

  pub stage_in : (stage : Stage) (place : ℕ) → place < start.shape.nodes → (rows : Bool)
      → is_ordered stage rows ≡ true
      → IsIn (order_to (order_of start c stage) place rows) (phase_sends (first start) (phase_of c stage))
  unfolding phase_sends to_both
  stage_in Prepares place low false is = order_in false (order.Prepare c.epoch c.next) place low
  stage_in Commits place low false is = order_in false (order.Commit c.epoch c.next) place low
  stage_in Closes place low false is =
      in_front (order_to (order.Close c.epoch) place false) (to_each block.Dih (order.Close c.epoch) (first start))
      (to_each block.Lqh (order.Close c.epoch) (first start)) (order_in false (order.Close c.epoch) place low)
  stage_in Closes place low true is =
      in_append (order_to (order.Close c.epoch) place true) (to_each block.Dih (order.Close c.epoch) (first start))
      (to_each block.Lqh (order.Close c.epoch) (first start)) (order_in true (order.Close c.epoch) place low)
  stage_in Saves place low true is = order_in true (order.Save c.epoch) place low
  stage_in Copies place low false is = order_in false (order_of start c Copies) place low
  stage_in stage place low rows is = absurd (false≢true is)

  front_many : (kind : Closing)
      → length (front_sends 1 (first start) (Some (ended_by c.epoch kind)))
      ≤ suc (start.shape.nodes + start.shape.nodes)
  unfolding front_sends
  front_many Gcp =
      omega (
        arith,
        length-append (to_both (order.Done c.epoch) (first start))
            (to_place client (Epoch (report_by c.epoch Gcp)) ∷ []),
        both_many (order.Done c.epoch),
      )
  front_many Micro = omega arith
  front_many Lcp =
      omega (
        arith,
        length-append (to_both (order.Done c.epoch) (first start))
            (to_place client (Epoch (report_by c.epoch Lcp)) ∷ []),
        both_many (order.Done c.epoch),
      )

  -- the report of a checkpoint stands behind all else
  pub report_left : c.kind ≡ Gcp → (at : ℕ) → at ≤ start.shape.nodes + start.shape.nodes
      → IsIn (report_of c) (drop at (front_sends 1 (first start) (Some (ended_of c))))
  unfolding front_sends
  report_left is at low =
      subst (λ (k : Closing).
      IsIn (to_place client (Epoch (report_by c.epoch k)))
      (drop at (front_sends 1 (first start) (Some (ended_by c.epoch k))))) (sym is)
      (subst (IsIn (to_place client (Epoch (report_by c.epoch Gcp))))
      (sym (drop-append-le at (to_both (order.Done c.epoch) (first start))
      (to_place client (Epoch (report_by c.epoch Gcp)) ∷ [])
      (omega (arith, low, both_many (order.Done c.epoch)))))
      (in_append _ (drop at (to_both (order.Done c.epoch) (first start)))
      (to_place client (Epoch (report_by c.epoch Gcp)) ∷ []) (inl refl)))

  pub report_stands : IsIn (report_of c) (front_sends 1 (first start) (Some (ended_of c)))
  unfolding front_sends
  report_stands = by c.kind
    where
      by : (kind : Closing)
          → IsIn (to_place client (Epoch (report_by c.epoch kind)))
          (front_sends 1 (first start) (Some (ended_by c.epoch kind)))
      by Gcp = in_append _ (to_both (order.Done c.epoch) (first start)) _ (inl refl)
      by Micro = inl refl
      by Lcp = in_append _ (to_both (order.Done c.epoch) (first start)) _ (inl refl)

  -- the list of the president's master
  module _ (s : MasterState) (master : IsMaster start s) where
    list_is : master_sends s ≡ front_sends 1 (first start) s.front ++ phase_sends (first start) s.phase
    unfolding master_sends
    list_is =
        ap (λ (member : Member). front_sends member.node s.view s.front ++ phase_sends s.view s.phase) master.member
        ∙ ap (λ (view : View). front_sends 1 view s.front ++ phase_sends view s.phase) master.view

    -- of a stage
    pub stage_list : (stage : Stage) → s.phase ≡ phase_of c stage → s.front ≡ None
        → master_sends s ≡ phase_sends (first start) (phase_of c stage)
    unfolding front_sends
    stage_list stage phase front =
        list_is
        ∙ ap (λ (f : Option Ended). front_sends 1 (first start) f ++ phase_sends (first start) s.phase) front
        ∙ ap (phase_sends (first start)) phase

    -- and at the end
    pub over_list : s.phase ≡ Resting c.next → master_sends s ≡ front_sends 1 (first start) s.front
    unfolding phase_sends
    over_list phase =
        list_is
        ∙ ap (λ (p : Phase). front_sends 1 (first start) s.front ++ phase_sends (first start) p) phase
        ∙ append-nil (front_sends 1 (first start) s.front)

-- what a master has to send is of this closing
pub record IsListed (start : Start) (c : Course) (s : MasterState) : Type 0 where
  pub sent : Each (IsSent start c) (master_sends s)
  pub few : length (master_sends s) ≤ suc (start.shape.nodes + start.shape.nodes)

pub stage_listed : (start : Start) (c : Course) (s : MasterState) → IsMaster start s → (stage : Stage)
    → s.phase ≡ phase_of c stage → s.front ≡ None → IsListed start c s
stage_listed start c s master stage phase front =
    let list : master_sends s ≡ phase_sends (first start) (phase_of c stage) =
    stage_list start c s master stage phase front in
    record {
      sent = subst (Each (IsSent start c)) (sym list) (stage_sent start c stage);
      few = omega (arith, ap length list, stage_many start c stage);
    }

pub over_listed : (start : Start) (c : Course) (s : MasterState) → IsMaster start s → s.phase ≡ Resting c.next
    → (s.front ≡ None) ⊎ (s.front ≡ Some (ended_of c)) → IsListed start c s
unfolding front_sends
over_listed start c s master phase (inl none) =
    let list : master_sends s ≡ [] =
    over_list start c s master phase ∙ ap (front_sends 1 (first start)) none in
    record { sent = subst (Each (IsSent start c)) (sym list) tt; few = omega (arith, ap length list) }
over_listed start c s master phase (inr left) =
    let list : master_sends s ≡ front_sends 1 (first start) (Some (ended_of c)) =
    over_list start c s master phase ∙ ap (front_sends 1 (first start)) left in
    record {
      sent = subst (Each (IsSent start c)) (sym list) (front_sent start c c.kind refl);
      few = omega (arith, ap length list, front_many start c c.kind);
    }

-- A step of the master that sends its list from a place on.
module _ (start : Start) (c : Course) (shape : IsShape start.shape) (after : Moment) (s : MasterState) (at : ℕ)
    (member : s.member ≡ first_start 1) (listed : IsListed start c s)
    (arrive : Each (λ (one : Outgoing). IsIn one (after.under_way main (host_for start one.to)))
    (list_effects s at).sends)
  where
    arrives : (one : Outgoing) → IsIn one (list_effects s at).sends
        → IsIn one (after.under_way main (host_for start one.to))
    arrives one is =
        each_in (λ (o : Outgoing). IsIn o (after.under_way main (host_for start o.to))) one (list_effects s at).sends
        arrive is

    pub portion_arrives : (one : Outgoing) → IsIn one (portion (master_sends s) at)
        → IsIn one (after.under_way main (host_for start one.to))
    unfolding list_effects
    portion_arrives one is =
        arrives one
        (in_front one (portion (master_sends s) at) (rest (checkpoints s.member.node) Members (master_sends s) at) is)

    rest_in : (more : Bool) → more ≡ true
        → IsIn (going_on (at + PORTION)) (rest_if (checkpoints s.member.node) Members at more)
    rest_in true is = inl (ap (λ (m : Member). go_on_at (checkpoints m.node) Members (at + PORTION)) (sym member))
    rest_in false is = absurd (false≢true is)

    pub rest_arrives : nat_lt (at + PORTION) (length (master_sends s)) ≡ true
        → IsIn (going_on (at + PORTION)) (after.under_way main main)
    unfolding list_effects
    rest_arrives more =
        subst (λ j. IsIn (going_on (at + PORTION)) (after.under_way main j)) (main_reached start shape)
        (arrives (going_on (at + PORTION))
        (in_append (going_on (at + PORTION)) (portion (master_sends s) at)
        (rest (checkpoints s.member.node) Members (master_sends s) at)
        (rest_in (nat_lt (at + PORTION) (length (master_sends s))) more)))

    -- what stands there is under way then, or is left to send
    pub list_goes : (one : Outgoing) → IsIn one (drop at (master_sends s))
        → IsIn one (after.under_way main (host_for start one.to)) ⊎ IsUnsent start after s one
    list_goes one is = go (portion_or_rest (master_sends s) at one is)
      where
        go : IsIn one (portion (master_sends s) at) ⊎ IsIn one (drop (at + PORTION) (master_sends s))
            → IsIn one (after.under_way main (host_for start one.to)) ⊎ IsUnsent start after s one
        go (inl now) = inl (portion_arrives one now)
        go (inr later) =
            let below : at + PORTION < length (master_sends s) = left_below (master_sends s) (at + PORTION) one later in
            inr (record {
              at = at + PORTION;
              low = omega (arith, below, listed.few);
              coming = rest_arrives (grind (arith, nat_tests, below));
              left = later;
            })

    -- all that is sent is of this closing
    rest_is : (more : Bool) → nat_lt (at + PORTION) (length (master_sends s)) ≡ more → (one : Outgoing)
        → IsIn one (rest_if (checkpoints s.member.node) Members at more)
        → GoingOn start main (host_for start one.to) one
    rest_is true more one (inl same) =
        let own : one ≡ going_on (at + PORTION) =
        same ∙ ap (λ (m : Member). go_on_at (checkpoints m.node) Members (at + PORTION)) member in
        record {
          at = at + PORTION;
          low = omega (arith, lt_of (at + PORTION) (length (master_sends s)) more, listed.few);
          from = refl;
          to = ap (λ (o : Outgoing). host_for start o.to) own ∙ main_reached start shape;
          is = own;
        }
    rest_is true more one (inr none) = absurd none
    rest_is false more one none = absurd none

    pub all_letters : (one : Outgoing) → IsIn one (list_effects s at).sends
        → IsSent start c one ⊎ GoingOn start main (host_for start one.to) one
    unfolding list_effects
    all_letters one is =
        go
        (in_either one (portion (master_sends s) at)
        (rest (checkpoints s.member.node) Members (master_sends s) at) is)
      where
        go : IsIn one (portion (master_sends s) at)
            ⊎ IsIn one (rest (checkpoints s.member.node) Members (master_sends s) at)
            → IsSent start c one ⊎ GoingOn start main (host_for start one.to) one
        go (inl there) =
            inl (each_in (IsSent start c) one (portion (master_sends s) at)
            (each_take (IsSent start c) PORTION _ (each_drop (IsSent start c) at (master_sends s) listed.sent)) there)
        go (inr there) = inr (rest_is (nat_lt (at + PORTION) (length (master_sends s))) refl one there)
