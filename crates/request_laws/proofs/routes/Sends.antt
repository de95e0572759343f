-- What a transaction sends in its phases is routed in the view of its coordinator, where its keys have their routes,
-- and it is driven where it is committed.
use Rattle.std.proofs.Common.{◌≡◌, ◌<◌, ◌⊎◌, ◌||◌, ◌+◌, ℕ, Bool, true, false, List, [], ◌∷◌, drop, inl, inr, length}
use Rattle.std.proofs.Common.{map, nat_lt, refl, sym, ap, ◌∙◌, arith, take}
use Rattle.std.proofs.lemmas.Bool.{true≢false}
use Rattle.std.specs.List.{flat_map}
use Rattle.std.specs.Prelude.{Option, None, Some}
use Rattle.run_theory.specs.Lists.{Each}
use Rattle.run_theory.proofs.EachSent.{each_drop, each_mapped, each_set, each_take}
use Rattle.run_theory.proofs.Pasts.{each_append}
use Rattle.sig_core.specs.declared.member.Member.{Member}
use Rattle.sig_core.specs.declared.member.TxId.{TxId}
use Rattle.sig_core.specs.declared.op.Answer.{Answer}
use Rattle.sig_core.specs.declared.op.Answer.TheVariants as answer
use Rattle.sig_core.specs.declared.op.Op.{Op}
use Rattle.sig_core.specs.declared.outs.Outgoing.{Outgoing}
use Rattle.sig_core.specs.declared.place.Place.{Place}
use Rattle.sig_core.specs.declared.signal.Body.{Body}
use Rattle.sig_core.specs.declared.signal.Body.TheVariants.{Chain}
use Rattle.sig_core.specs.declared.signal.chain.ChainSignal.TheVariants.{Commit, LqhKeyReq}
use Rattle.sig_core.specs.Op.{key_of}
use Rattle.sig_core.specs.Chain.{primary_of}
use Rattle.frag_map.specs.Layout.{Layout, chain_of}
use Rattle.tc_block.specs.Doom.{is_undecided}
use Rattle.tc_block.specs.Operate.{touched_after}
use Rattle.tc_block.specs.Part.{part_effects, rest_if}
use Rattle.tc_block.specs.Resume.{rechained, rechained_if}
use Rattle.tc_block.specs.Sends.{abort_of, complete_if, front_sends, key_sends, phase_sends}
use Rattle.tc_block.specs.Touched.{place_of, touched_by, unwritten, written, written_by}
use Rattle.tc_block.specs.declared.phase.Phase.{Phase}
use Rattle.tc_block.specs.declared.phase.Phase.TheVariants.{Open, Verifying, Committing, Completing, Aborting}
use Rattle.tc_block.specs.declared.touched.Touched.{Touched}
use Rattle.run_laws.proofs.routes.Chain.{last_inside, primary_length}
use Rattle.run_laws.proofs.routes.Sends.{each_flat_of}
use Rattle.request_laws.specs.Drives.{is_commit, is_request}
use Rattle.request_laws.specs.Routes.{IsRouted, IsSentRouted, IsTouchedRouted, touched_chain}
use Rattle.request_laws.specs.Ways.{is_sent}
use Rattle.request_laws.proofs.routes.Takeovers.{ChainsAreSome}

-- what is sent is of a transaction that is asked for, or driven, in this view
abbrev pub IsMade : (TxId → Type 0) → (TxId → Type 0) → Body → Type 0
IsMade A D (Chain (LqhKeyReq tx work chain at)) = A tx
IsMade A D (Chain (Commit tx key epoch chain at)) = D tx
IsMade A D body = Unit {0}

-- of nobody
abbrev pub Nobody : TxId → Type 0
Nobody tx = ⊥

module _ (layout : Layout) (G : TxId → Type 0) (tx : TxId) where
  no_request : (D : TxId → Type 0) (to : Place) (body : Body) → IsRouted layout Nobody D G to body
      → is_request tx body ≡ false
  no_request D to (Chain (LqhKeyReq other work chain at)) is = absurd is.1
  no_request D to _ is = refl

  no_commit : (A : TxId → Type 0) (to : Place) (body : Body) → IsRouted layout A Nobody G to body
      → is_commit tx body ≡ false
  no_commit A to (Chain (Commit other key epoch chain at)) is = absurd is.1
  no_commit A to _ is = refl

  pub none_asked : (D : TxId → Type 0) (sends : List Outgoing) → Each (IsSentRouted layout Nobody D G) sends
      → is_sent (is_request tx) sends ≡ false
  none_asked D [] all = refl
  none_asked D (sent ∷ sends) all =
      ap (λ b. b || is_sent (is_request tx) sends) (no_request D sent.to sent.body all.0)
      ∙ none_asked D sends all.1

  pub none_driven : (A : TxId → Type 0) (sends : List Outgoing) → Each (IsSentRouted layout A Nobody G) sends
      → is_sent (is_commit tx) sends ≡ false
  none_driven A [] all = refl
  none_driven A (sent ∷ sends) all =
      ap (λ b. b || is_sent (is_commit tx) sends) (no_commit A sent.to sent.body all.0) ∙ none_driven A sends all.1

module _ (layout : Layout) (A D G : TxId → Type 0) (some : ChainsAreSome layout) where
  abbrev pub IsSent : Outgoing → Type 0
  IsSent sent = IsSentRouted layout A D G sent

  abbrev pub AreSent : List Outgoing → Type 0
  AreSent sends = Each (IsSentRouted layout A D G) sends

  abbrev pub AreTouched : List Touched → Type 0
  AreTouched touched = Each (IsTouchedRouted layout) touched

  module _ (tx : TxId) where
    -- where a commit goes
    along_of : (t : Touched) (b : Bool) → t.chain ≡ touched_chain layout t b
        → (t.chain ≡ chain_of layout t.key) ⊎ (t.chain ≡ primary_of (chain_of layout t.key))
    along_of t true is = inl is
    along_of t false is = inr is

    some_of : (t : Touched) → (t.chain ≡ chain_of layout t.key) ⊎ (t.chain ≡ primary_of (chain_of layout t.key))
        → 0 < length t.chain
    some_of t (inl is) = omega (arith, ap length is, some t.key)
    some_of t (inr is) = omega (arith, ap length is, primary_length (chain_of layout t.key) (some t.key))

    complete_sent : D tx → (t : Touched) (b : Bool) → t.chain ≡ touched_chain layout t b
        → AreSent (complete_if tx t b)
    complete_sent driven t true is = (
      (
        record {
          along = is;
          inside = last_inside t.chain (omega (arith, ap length is, some t.key));
          place = refl;
        },
        driven,
      ),
      tt,
    )
    complete_sent driven t false is = tt

    -- what a transaction needs for what it sends in a phase
    abbrev pub Needs : Phase → List Touched → Type 0
    Needs Open touched = Unit {0}
    Needs Verifying touched = Unit {0}
    Needs (Committing epoch awaited) touched = D tx × AreTouched touched
    Needs (Completing epoch awaited) touched = D tx × AreTouched touched
    Needs (Aborting why verifying awaited) touched = Unit {0}

    front_sent : (phase : Phase) → AreSent (front_sends tx phase)
    unfolding front_sends
    front_sent Open = tt
    front_sent Verifying = tt
    front_sent (Committing epoch awaited) = tt
    front_sent (Completing epoch awaited) = (tt, tt)
    front_sent (Aborting why verifying awaited) = tt

    none_sent : (phase : Phase) (touched : List Touched) → ((t : Touched) → AreSent (key_sends layout tx phase t))
        → AreSent (flat_map (key_sends layout tx phase) touched)
    none_sent phase [] each = tt
    none_sent phase (t ∷ touched) each =
        each_append IsSent (key_sends layout tx phase t) (flat_map (key_sends layout tx phase) touched) (each t)
        (none_sent phase touched each)

    keys_sent : (phase : Phase) (touched : List Touched) → Needs phase touched
        → AreSent (flat_map (key_sends layout tx phase) touched)
    unfolding key_sends
    keys_sent Open touched needs = none_sent Open touched (λ t. tt)
    keys_sent Verifying touched needs = none_sent Verifying touched (λ t. tt)
    keys_sent (Committing epoch awaited) touched needs =
        each_flat_of (IsTouchedRouted layout) IsSent (key_sends layout tx (Committing epoch awaited)) touched
        (λ t is.
        let along = along_of t t.written is in (
          (record { along = along; inside = last_inside t.chain (some_of t along); place = refl }, needs.0),
          tt,
        ))
        needs.1
    keys_sent (Completing epoch awaited) touched needs =
        each_flat_of (IsTouchedRouted layout) IsSent (key_sends layout tx (Completing epoch awaited)) touched
        (λ t is. complete_sent needs.0 t t.written is) needs.1
    keys_sent (Aborting why verifying awaited) touched needs =
        none_sent (Aborting why verifying awaited) touched
        (λ t. each_mapped IsSent (abort_of tx t.key) (chain_of layout t.key) (λ r. refl))

    pub phase_sent : (phase : Phase) (touched : List Touched) → Needs phase touched
        → AreSent (phase_sends layout tx phase touched)
    unfolding phase_sends
    phase_sent phase touched needs =
        each_append IsSent (front_sends tx phase) (flat_map (key_sends layout tx phase) touched) (front_sent phase)
        (keys_sent phase touched needs)

    module _ (node : ℕ) where
      rest_sent : (at : ℕ) (b : Bool) → D tx ⊎ G tx → AreSent (rest_if node tx at b)
      rest_sent at true own = (own, tt)
      rest_sent at false own = tt

      pub part_sent : (sends : List Outgoing) (at : ℕ) → D tx ⊎ G tx → AreSent sends
          → AreSent (part_effects node tx sends at).sends
      unfolding part_effects
      part_sent sends at own all =
          each_append IsSent (take 8 (drop at sends)) (rest_if node tx at (nat_lt (at + 8) (length sends)))
          (each_take IsSent 8 (drop at sends) (each_drop IsSent at sends all))
          (rest_sent at (nat_lt (at + 8) (length sends)) own)

      -- it drives whom it commits
      abbrev pub AreMade : List Outgoing → Type 0
      AreMade sends = Each (λ (sent : Outgoing). IsMade A D sent.body) sends

      pub commits_sent : (epoch awaited : ℕ) (touched : List Touched) → (D tx → AreTouched touched)
          → AreMade (part_effects node tx (phase_sends layout tx (Committing epoch awaited) touched) 0).sends
          → AreSent (part_effects node tx (phase_sends layout tx (Committing epoch awaited) touched) 0).sends
      unfolding part_effects phase_sends key_sends front_sends
      commits_sent epoch awaited [] routes made = tt
      commits_sent epoch awaited (t ∷ touched) routes made =
          let driven : D tx = made.0 in
          part_sent (phase_sends layout tx (Committing epoch awaited) (t ∷ touched)) 0 (inl driven)
          (phase_sent (Committing epoch awaited) (t ∷ touched) (driven, routes driven))

  -- the routes where a key is touched, is written, and is chained anew
  pub touched_routed : (keys : List Touched) (key : List ℕ) (place : Option ℕ) → AreTouched keys
      → AreTouched (touched_by keys key (chain_of layout key) place)
  touched_routed keys key None all =
      each_append (IsTouchedRouted layout) keys (unwritten key (chain_of layout key) ∷ []) all (refl, tt)
  touched_routed keys key (Some at) all = all

  written_routed : (keys : List Touched) (key : List ℕ) (chain : List Member) (place : Option ℕ)
      → chain ≡ chain_of layout key → AreTouched keys → AreTouched (written_by keys key chain place)
  written_routed keys key chain None is all = all
  written_routed keys key chain (Some at) is all =
      each_set (IsTouchedRouted layout) keys at (written key chain) all is

  pub answered_routed : (keys : List Touched) (answer : Answer) (op : Op) (chain : List Member)
      → chain ≡ chain_of layout (key_of op) → AreTouched keys → AreTouched (touched_after answer keys op chain)
  answered_routed keys answer.Done op chain is all =
      written_routed keys (key_of op) chain (place_of keys (key_of op)) is all
  answered_routed keys (answer.Found value) op chain is all = all
  answered_routed keys answer.Missing op chain is all = all
  answered_routed keys answer.E626 op chain is all = all
  answered_routed keys answer.E630 op chain is all = all

  pub rechained_routed : (keys : List Touched) → AreTouched (map (rechained layout) keys)
  unfolding rechained
  rechained_routed [] = tt
  rechained_routed (t ∷ keys) = (by t.written, rechained_routed keys)
    where
      by : (b : Bool) → IsTouchedRouted layout (rechained_if t b layout)
      by true = refl
      by false = refl

-- one that isn't decided asks for nothing where it goes on with what it sends
module _ (layout : Layout) (some : ChainsAreSome layout) (node : ℕ) (tx : TxId) (touched : List Touched) (at : ℕ) where
  abbrev Anybody : TxId → Type 0
  Anybody tx = Unit {0}

  pub going_unasked : (phase : Phase) → is_undecided phase ≡ true
      → is_sent (is_request tx) (part_effects node tx (phase_sends layout tx phase touched) at).sends ≡ false
  going_unasked phase undecided =
      none_asked layout Anybody tx Nobody (part_effects node tx (phase_sends layout tx phase touched) at).sends
      (part_sent layout Nobody Nobody Anybody some tx node (phase_sends layout tx phase touched) at (inr tt)
      (phase_sent layout Nobody Nobody Anybody some tx phase touched (by phase undecided)))
    where
      by : (phase : Phase) → is_undecided phase ≡ true → Needs layout Nobody Nobody Anybody some tx phase touched
      by Open is = tt
      by Verifying is = tt
      by (Committing epoch awaited) is = absurd (true≢false (sym is))
      by (Completing epoch awaited) is = absurd (true≢false (sym is))
      by (Aborting why verifying awaited) is = absurd (true≢false (sym is))
