-- What the blocks of a host are along its log, and which host gets what is sent.
use Rattle.std.proofs.Common.{◌≡◌, ◌≢◌, ◌⊎◌, inl, inr, ℕ, zero, suc, ◌<◌, ◌≤◌, ◌%◌, List, [], ◌∷◌, Bool, true, false}
use Rattle.std.proofs.Common.{refl, ap, sym, ◌∙◌, subst, arith}
use Rattle.std.specs.Prelude.{◌==◌, ◌&&◌}
use Rattle.std.proofs.lemmas.Bool.{cases_lt, eq-eqb, eqb-true, false≢true}
use Rattle.sig_core.specs.declared.member.Member.{Member}
use Rattle.sig_core.specs.declared.member.TxId.{TxId}
use Rattle.sig_core.specs.declared.outs.Outgoing.{Outgoing}
use Rattle.sig_core.specs.declared.place.Part.{Part}
use Rattle.sig_core.specs.declared.place.Part.TheVariants as part
use Rattle.sig_core.specs.declared.place.Place.{Place}
use Rattle.sig_core.specs.declared.signal.Body.{Body}
use Rattle.sig_core.specs.declared.signal.Signal.{Signal}
use Rattle.sig_core.specs.Part.{part_of}
use Rattle.sig_core.specs.Place.{coordinator, rows_of}
use Rattle.frag_map.specs.Layout.{first_layout}
use Rattle.lqh_block.specs.Lqh.{lqh_row}
use Rattle.lqh_block.specs.State.{LqhState}
use Rattle.node_core.proofs.HostCases.{keeps_rows, keeps_tc}
use Rattle.node_core.specs.declared.host.Host as host
use Rattle.node_core.specs.declared.host.Host.TheVariants.{Shell, Main, Tc, Ldm}
use Rattle.node_core.specs.Blocks.{api_of, has_api, has_lqh, has_tc, lqh_of, tc_of}
use Rattle.node_core.specs.Fresh.{fresh_part, fresh_shell}
use Rattle.node_core.specs.Replies.{replies_of}
use Rattle.tc_block.specs.State.{TcState}
use Rattle.tc_block.specs.Tc.{tc_row}
use Rattle.world_core.proofs.HostNumbers.{api_found, beyond_first, host_below, host_some, node_host, same_node}
use Rattle.world_core.proofs.HostNumbers.{tc_after}
use Rattle.world_core.proofs.HostNumbers.{tc_found, tc_started}
use Rattle.world_core.specs.Hosts.{home, host_for, first_hosts, member_at, number_of, part_by, rows_host, started}
use Rattle.world_core.specs.Hosts.{tc_host}
use Rattle.world_core.specs.Machine.{after}
use Rattle.world_core.specs.Start.{Start, made}
use Rattle.world_core.specs.Steps.{HostStep}
use Rattle.host_laws.proofs.hosts.LinkCounts.{at_shell, to_host}
use Rattle.host_laws.proofs.coordinator.Moves.{tc_moves, tc_node, tc_view}
use Rattle.host_laws.proofs.api.Wishes.{sends_of, to_node}
use Rattle.run_theory.specs.Counts.{one_if}

-- a host that doesn't run a coordinator has no transactions
pub no_live : (s : host.Host) → has_tc s ≡ false → (tc_of s).live ≡ []
no_live (Tc p) e = absurd (false≢true (sym e))
no_live _ e = refl

-- the replies of a host are those of its API
pub replies_are : (s : host.Host) → replies_of s ≡ (api_of s).replies
unfolding replies_of
replies_are (Shell a) = refl
replies_are (Main m) = refl
replies_are (Tc p) = refl
replies_are (Ldm l) = refl

-- one that doesn't run rows has no requests
pub no_waiting : (s : host.Host) → has_lqh s ≡ false → (lqh_of s).waiting ≡ []
no_waiting (Ldm l) e = absurd (false≢true (sym e))
no_waiting _ e = refl

module _ (start : Start) where
  -- no coordinator begins with transactions, and no rows with requests
  pub first_live : (h : ℕ) → (tc_of (after start h [])).live ≡ []
  unfolding started fresh_shell fresh_part
  first_live zero = refl
  first_live (suc h) = go (part_by (h % 3)) (member_at (made start) (suc h))
    where
      go : (of : Part) (member : Member)
          → (tc_of (fresh_part of member (first_layout start.shape) start.epoch start.rows)).live ≡ []
      go part.Main member = refl
      go part.Tc member = refl
      go part.Ldm member = refl

  pub first_waiting : (h : ℕ) → (lqh_of (after start h [])).waiting ≡ []
  unfolding started fresh_shell fresh_part
  first_waiting zero = refl
  first_waiting (suc h) = go (part_by (h % 3)) (member_at (made start) (suc h))
    where
      go : (of : Part) (member : Member)
          → (lqh_of (fresh_part of member (first_layout start.shape) start.epoch start.rows)).waiting ≡ []
      go part.Main member = refl
      go part.Tc member = refl
      go part.Ldm member = refl

  -- what a block begins with and each of its steps keeps is so in every log
  pub tc_along : (R : TcState → Type 0) → ((t : TcState) (x : Signal) → R t → R (tc_row t x).state) → (h : ℕ)
      → R (tc_of (started start h)) → (log : List HostStep) → R (tc_of (after start h log))
  tc_along R kept h first [] = first
  tc_along R kept h first (e ∷ log) = keeps_tc R kept (after start h log) e.step.taken (tc_along R kept h first log)

  pub rows_along : (R : LqhState → Type 0) → ((l : LqhState) (x : Signal) → R l → R (lqh_row l x).state) → (h : ℕ)
      → R (lqh_of (started start h)) → (log : List HostStep) → R (lqh_of (after start h log))
  rows_along R kept h first [] = first
  rows_along R kept h first (e ∷ log) =
      keeps_rows R kept (after start h log) e.step.taken (rows_along R kept h first log)

  -- the shell's host alone runs the API
  pub no_api : (h : ℕ) (log : List HostStep) → h ≢ 0 → has_api (after start h log) ≡ false
  no_api h log other = go (has_api (after start h log)) refl
    where
      go : (b : Bool) → has_api (after start h log) ≡ b → has_api (after start h log) ≡ false
      go false e = e
      go true e = absurd (other (api_found start h log e))

  -- a coordinator has the number of its node
  pub tc_number : (node : ℕ) (log : List HostStep) → 1 ≤ node → node ≤ start.shape.nodes
      → (tc_of (after start (tc_host start node) log)).node ≡ node
  unfolding fresh_part
  tc_number node log some low =
      tc_along (λ t. t.node ≡ node) (λ t x was. tc_node t _ _ (tc_moves t x.body) ∙ was) (tc_host start node)
      (ap (λ (s : host.Host). (tc_of s).node) (tc_started start node some low)) log

  -- a host with a coordinator is that of the coordinator's node
  pub record IsAtNode (h : ℕ) (s : TcState) : Type 0 where
    pub some : 1 ≤ s.node
    pub low : s.node ≤ start.shape.nodes
    pub is : h ≡ tc_host start s.node

  pub at_own_node : (h : ℕ) (log : List HostStep) → h < first_hosts start → has_tc (after start h log) ≡ true
      → IsAtNode h (tc_of (after start h log))
  at_own_node h log low runs =
      let of = tc_found start h log low runs in
      let number : (tc_of (after start h log)).node ≡ of.node =
      ap (λ k. (tc_of (after start k log)).node) of.is ∙ tc_number of.node log of.some of.low in
      record {
        some = omega (arith, number, of.some);
        low = omega (arith, number, of.low);
        is = of.is ∙ ap (tc_host start) (sym number);
      }

  -- the host is that of a transaction's coordinator, of a node that is there
  pub record IsHome (tx : TxId) (h : ℕ) : Type 0 where
    pub some : 1 ≤ tx.tc
    pub low : tx.tc ≤ start.shape.nodes
    pub is : h ≡ home start tx

  -- and has the layout in which all begin
  begun_layout : (h : ℕ) → has_tc (started start h) ≡ true → (tc_of (started start h)).layout ≡ first_layout start.shape
  unfolding started fresh_shell fresh_part
  begun_layout zero runs = absurd (false≢true runs)
  begun_layout (suc h) runs = go (part_by (h % 3)) (member_at (made start) (suc h)) runs
    where
      go : (of : Part) (member : Member)
          → has_tc (fresh_part of member (first_layout start.shape) start.epoch start.rows) ≡ true
          → (tc_of (fresh_part of member (first_layout start.shape) start.epoch start.rows)).layout
          ≡ first_layout start.shape
      go part.Main member runs = absurd (false≢true runs)
      go part.Tc member runs = refl
      go part.Ldm member runs = absurd (false≢true runs)

  pub tc_layout : (h : ℕ) (log : List HostStep) → has_tc (after start h log) ≡ true
      → (tc_of (after start h log)).layout ≡ first_layout start.shape
  tc_layout h log runs =
      tc_along (λ t. t.layout ≡ first_layout start.shape) (λ t x was. tc_view t _ _ (tc_moves t x.body) ∙ was) h
      (begun_layout h (sym (tc_after start h log) ∙ runs)) log

  -- a place of a node's part and another of the same part of some node have one host where they are of one node
  same_test : (a b c d : ℕ) → (a ≡ b → c ≡ d) → (c ≡ d → a ≡ b) → (a == b) ≡ (c == d)
  same_test a b c d there back = go (a == b) (c == d) refl refl
    where
      go : (x y : Bool) → (a == b) ≡ x → (c == d) ≡ y → x ≡ y
      go true true p q = refl
      go false false p q = refl
      go true false p q = absurd (false≢true (sym q ∙ eq-eqb c d (there (eqb-true a b p))))
      go false true p q = absurd (false≢true (sym p ∙ eq-eqb a b (back (eqb-true c d q))))

  at_part : (one to : Place) → 1 ≤ one.node → one.node ≤ start.shape.nodes → part_of to.block ≡ part_of one.block
      → (host_for start to == host_for start one) ≡ (to.node == one.node)
  at_part one to some low alike = same_test (host_for start to) (host_for start one) to.node one.node
      (λ same. there same (cases_lt 0 to.node) (cases_lt start.shape.nodes to.node)) back
    where
      there : host_for start to ≡ host_for start one → (0 < to.node) ⊎ (to.node ≤ 0)
          → (start.shape.nodes < to.node) ⊎ (to.node ≤ start.shape.nodes) → to.node ≡ one.node
      there same (inr none) high =
          let at : (to.node == 0) ≡ true = eq-eqb to.node 0 (omega (arith, none)) in
          absurd (omega (
            arith,
            same,
            eqb-true (host_for start to) 0 (at_shell start to ∙ at),
            host_some start one some
                low,
          ))
      there same (inl behind) (inl above) =
          absurd (omega (arith, same, beyond_first start to above, host_below start one some low))
      there same (inl behind) (inr under) = same_node start to one (omega (arith, behind)) under some low same

      back : to.node ≡ one.node → host_for start to ≡ host_for start one
      back same =
          omega (
            arith,
            same,
            node_host start to (omega (arith, same, some)) (omega (arith, same, low)),
            node_host start
                one some low,
            ap number_of alike,
          )

  pub at_tc_host : (node : ℕ) (to : Place) → 1 ≤ node → node ≤ start.shape.nodes → part_of to.block ≡ part.Tc
      → (host_for start to == tc_host start node) ≡ (to.node == node)
  at_tc_host node to some low is = at_part (coordinator node) to some low is

  pub at_rows_host : (node : ℕ) (to : Place) → 1 ≤ node → node ≤ start.shape.nodes → part_of to.block ≡ part.Ldm
      → (host_for start to == rows_host start node) ≡ (to.node == node)
  at_rows_host node to some low is = at_part (rows_of node) to some low is

  -- so what passes a test for one part of nodes goes to a node's host where it is for the node
  sent_to_part : (one : Place) → 1 ≤ one.node → one.node ≤ start.shape.nodes → (test : Place → Body → Bool)
      → ((to : Place) (body : Body) → test to body ≡ true → part_of to.block ≡ part_of one.block)
      → (sends : List Outgoing)
      → sends_of (to_host start (host_for start one) test) sends ≡ sends_of (to_node one.node test) sends
  sent_to_part one some low test only [] = refl
  sent_to_part one some low test only (x ∷ xs) =
      omega (arith, here (test x.to x.body) refl, sent_to_part one some low test only xs)
    where
      none : (a b : Bool) → one_if (a && false) ≡ one_if (b && false)
      none true true = refl
      none true false = refl
      none false true = refl
      none false false = refl

      here : (b : Bool) → test x.to x.body ≡ b
          → one_if ((host_for start x.to == host_for start one) && test x.to x.body)
          ≡ one_if ((x.to.node == one.node) && test x.to x.body)
      here true e = ap (λ c. one_if (c && test x.to x.body)) (at_part one x.to some low (only x.to x.body e))
      here false e = subst (λ c. one_if ((host_for start x.to == host_for start one) && c) ≡ one_if
          ((x.to.node == one.node) && c)) (sym e)
          (none (host_for start x.to == host_for start one) (x.to.node == one.node))

  pub sent_to_tc : (node : ℕ) → 1 ≤ node → node ≤ start.shape.nodes → (test : Place → Body → Bool)
      → ((to : Place) (body : Body) → test to body ≡ true → part_of to.block ≡ part.Tc)
      → (sends : List Outgoing)
      → sends_of (to_host start (tc_host start node) test) sends ≡ sends_of (to_node node test) sends
  sent_to_tc node some low test only sends = sent_to_part (coordinator node) some low test only sends

  -- what is for a node that is there, or for the shell, goes to a host that is there
  pub reaches : (to : Place) → to.node ≤ start.shape.nodes → host_for start to < first_hosts start
  reaches to low = go (cases_lt 0 to.node)
    where
      go : (0 < to.node) ⊎ (to.node ≤ 0) → host_for start to < first_hosts start
      go (inl behind) = host_below start to (omega (arith, behind)) low
      go (inr none) =
          omega (arith, eqb-true (host_for start to) 0 (at_shell start to ∙ eq-eqb to.node 0 (omega (arith, none))))
