-- What a coordinator sends along chains goes to the places that it is for.
use Rattle.std.proofs.Common.{◌≡◌, ◌⊎◌, ◌<◌, ℕ, Bool, true, false, List, [], ◌∷◌, length, refl, ap, arith, inl, inr}
use Rattle.std.specs.List.{flat_map}
use Rattle.std.specs.Prelude.{if◌then◌else◌}
use Rattle.std.proofs.lemmas.Bool.{true≢false}
use Rattle.run_theory.specs.Lists.{Each}
use Rattle.run_theory.proofs.Pasts.{each_append}
use Rattle.sig_core.specs.declared.member.Member.{Member}
use Rattle.sig_core.specs.declared.member.TxId.{TxId}
use Rattle.sig_core.specs.declared.outs.Outgoing.{Outgoing}
use Rattle.sig_core.specs.declared.place.Place.{Place}
use Rattle.sig_core.specs.declared.signal.Body.{Body}
use Rattle.sig_core.specs.declared.signal.Body.TheVariants.{Chain}
use Rattle.frag_map.specs.Layout.{Layout, chain_of}
use Rattle.sig_core.specs.Chain.{primary_of}
use Rattle.tc_block.specs.declared.phase.Phase.{Phase}
use Rattle.tc_block.specs.declared.phase.Phase.TheVariants.{Open, Verifying, Committing, Completing, Aborting}
use Rattle.tc_block.specs.declared.touched.Touched.{Touched}
use Rattle.tc_block.specs.Sends.{abort_of, aborts_of, commit_of, complete_if, complete_of, front_sends, key_sends}
use Rattle.tc_block.specs.Sends.{phase_sends}
use Rattle.world_core.specs.Start.{Start}
use Rattle.run_theory.proofs.EachSent.{each_mapped}
use Rattle.run_laws.specs.Routes.{IsForBlock, IsOnWay, IsRouted, IsTouchedRouted, replicas}
use Rattle.tc_block.proofs.LiveKeeps.{is_chain}
use Rattle.run_laws.proofs.routes.Chain.{last_inside, primary_length}

-- a signal is routed, and for its block
abbrev pub IsSent : Start → Outgoing → Type 0
IsSent start o = IsOnWay start o.to o.body

abbrev pub AreSent : Start → List Outgoing → Type 0
AreSent start sends = Each (λ (o : Outgoing). IsSent start o) sends

-- what holds of the signals of each item of a list, where something holds of each item
pub each_flat_of : {A B : Type 0} (R : A → Type 0) (P : B → Type 0) (f : A → List B) (xs : List A)
    → ((x : A) → R x → Each P (f x)) → Each R xs → Each P (flat_map f xs)
each_flat_of R P f [] holds all = tt
each_flat_of R P f (x ∷ xs) holds all =
    each_append P (f x) (flat_map f xs) (holds x all.0) (each_flat_of R P f xs holds all.1)

-- a signal about no row
module _ (start : Start) where
  plain_routed : (node : ℕ) (body : Body) → is_chain body ≡ false → IsRouted start node body
  plain_routed node (Chain c) e = absurd (true≢false e)
  plain_routed node _ e = tt

  plain_block : (to : Place) (body : Body) → is_chain body ≡ false → IsForBlock to body
  plain_block to (Chain c) e = absurd (true≢false e)
  plain_block to _ e = tt

  pub plain_sent : (to : Place) (body : Body) → is_chain body ≡ false → IsOnWay start to body
  plain_sent to body e = record { routed = plain_routed to.node body e; block = plain_block to body e }

module _ (start : Start) (some : (key : List ℕ) → 0 < length (replicas start key)) (tx : TxId) where
  -- where a commit goes
  along_of : (t : Touched) (b : Bool) → t.written ≡ b
      → t.chain ≡ (if b then replicas start t.key else primary_of (replicas start t.key))
      → (t.chain ≡ replicas start t.key) ⊎ (t.chain ≡ primary_of (replicas start t.key))
  along_of t true e is = inl is
  along_of t false e is = inr is

  some_of : (t : Touched) → (t.chain ≡ replicas start t.key) ⊎ (t.chain ≡ primary_of (replicas start t.key))
      → 0 < length t.chain
  some_of t (inl is) = omega (arith, ap length is, some t.key)
  some_of t (inr is) = omega (arith, ap length is, primary_length (replicas start t.key) (some t.key))

  commit_sent : (epoch : ℕ) (t : Touched) → IsTouchedRouted start t → IsSent start (commit_of tx epoch t)
  commit_sent epoch t is =
      let along = along_of t t.written refl is in
      record {
        routed = record {
          along = along;
          sent = record { inside = last_inside t.chain (some_of t along); node_is = refl };
        };
        block = refl;
      }

  complete_sent : (t : Touched) → t.chain ≡ replicas start t.key → IsSent start (complete_of tx t)
  complete_sent t is = record {
    routed = record {
      along = is;
      sent = record {
        inside = last_inside t.chain (omega (arith, ap length is, some t.key));
        node_is = refl;
      };
    };
    block = refl;
  }

  complete_if_sent : (t : Touched) (b : Bool)
      → t.chain ≡ (if b then replicas start t.key else primary_of (replicas start t.key))
      → AreSent start (complete_if tx t b)
  complete_if_sent t true is = (complete_sent t is, tt)
  complete_if_sent t false is = tt

  pub aborts_sent : (key : List ℕ) (chain : List Member) → AreSent start (aborts_of tx key chain)
  aborts_sent key chain = each_mapped (λ (o : Outgoing). IsSent start o) (abort_of tx key) chain (λ r. record {
    routed = tt;
    block = refl;
  })

  key_sent : (layout : Layout) (phase : Phase) (t : Touched) → IsTouchedRouted start t
      → AreSent start (key_sends layout tx phase t)
  unfolding key_sends
  key_sent layout Open t is = tt
  key_sent layout Verifying t is = tt
  key_sent layout (Committing epoch awaited) t is = (commit_sent epoch t is, tt)
  key_sent layout (Completing epoch awaited) t is = complete_if_sent t t.written is
  key_sent layout (Aborting why verifying awaited) t is = aborts_sent t.key (chain_of layout t.key)

  front_sent : (phase : Phase) → AreSent start (front_sends tx phase)
  unfolding front_sends
  front_sent Open = tt
  front_sent Verifying = tt
  front_sent (Committing epoch awaited) = tt
  front_sent (Completing epoch awaited) = (record { routed = tt; block = tt }, tt)
  front_sent (Aborting why verifying awaited) = tt

  pub phase_sent : (layout : Layout) (phase : Phase) (touched : List Touched) → Each (IsTouchedRouted start) touched
      → AreSent start (phase_sends layout tx phase touched)
  unfolding phase_sends
  phase_sent layout phase touched all =
      each_append (λ (o : Outgoing). IsSent start o) (front_sends tx phase)
      (flat_map (key_sends layout tx phase) touched) (front_sent phase)
      (each_flat_of (IsTouchedRouted start) (λ (o : Outgoing). IsSent start o) (key_sends layout tx phase) touched
      (λ t is. key_sent layout phase t is) all)
