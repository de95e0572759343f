-- Whoever is to take what a host sends in calm takes it: what a plain host sends, rounds of time, and heartbeats. And
-- how many of them go to a main part.
use Rattle.std.proofs.Common.{◌≡◌, ◌≢◌, ◌⊎◌, ◌+◌, ◌<◌, ◌≤◌, inl, inr, ℕ, zero, suc, List, [], ◌∷◌, Bool, true, false}
use Rattle.std.proofs.Common.{refl, ap, sym, ◌∙◌, subst, eq-eqb, ne_eqb, arith}
use Rattle.std.specs.Prelude.{◌&&◌, ◌%◌, if◌then◌else◌, map}
use Rattle.std.proofs.lemmas.Bool.{and_from, and_parts, cases_eq, false≢true}
use Rattle.std.proofs.lemmas.List.{map-append}
use Rattle.frag_map.specs.Layout.{members}
use Rattle.frag_map.specs.Replicas.{first_start}
use Rattle.qmgr_block.specs.Ring.{heartbeat_to}
use Rattle.run_theory.proofs.Tally.{tally_append}
use Rattle.run_theory.specs.Counts.{one_if, tally}
use Rattle.run_theory.specs.Lists.{Each}
use Rattle.sig_core.specs.declared.outs.Outgoing.{Outgoing}
use Rattle.sig_core.specs.declared.place.BlockId.{BlockId}
use Rattle.sig_core.specs.declared.place.BlockId.TheVariants as block
use Rattle.sig_core.specs.declared.place.Part.{Part}
use Rattle.sig_core.specs.declared.place.Part.TheVariants as part
use Rattle.sig_core.specs.declared.place.Place.{Place}
use Rattle.sig_core.specs.declared.signal.Body.{Body}
use Rattle.sig_core.specs.declared.signal.Body.TheVariants.{Host, Membership}
use Rattle.sig_core.specs.declared.signal.host.HostSignal.TheVariants.{Round}
use Rattle.sig_core.specs.declared.signal.membership.MembershipSignal.TheVariants.{Heartbeat}
use Rattle.sig_core.specs.Place.{membership}
use Rattle.sig_core.specs.Step.{to_place}
use Rattle.world_core.specs.Hosts.{first_membership, host_for, first_hosts, part_by, receiver}
use Rattle.world_core.specs.Machine.{all_addressed, counted}
use Rattle.world_core.specs.Start.{Start}
use Rattle.world_core.specs.Steps.{Addressed}
use Rattle.calm_laws.specs.Calm.{has_block, is_calm, is_for, is_in}
use Rattle.calm_laws.specs.Plain.{is_beating, is_main}
use Rattle.calm_laws.specs.Steps.{IsPlainPlace, IsPlainSend, besides, is_of_parts, is_tick, round_for}
use Rattle.calm_laws.proofs.places.Main.{main_at, main_beats, main_reached}
use Rattle.calm_laws.proofs.plain_steps.Rounds.{each_besides}
use Rattle.calm_laws.proofs.plain_steps.SentStep.{IsFineSend, goes_to}

-- the block of a main part
pub main_has : (of : Part) (to : BlockId) → is_main of ≡ true → is_in of to ≡ true → to ≡ block.Qmgr
main_has part.Main block.Qmgr main there = refl
main_has part.Main to main there = absurd (false≢true there)
main_has of to main there = absurd (false≢true main)

main_in : (of : Part) → is_main of ≡ true → is_in of block.Qmgr ≡ true
main_in part.Main main = refl
main_in of main = absurd (false≢true main)

pub beating_block : (j : ℕ) (to : BlockId) → is_beating j ≡ true → has_block j to ≡ true → to ≡ block.Qmgr
beating_block zero to beats has = absurd (false≢true beats)
beating_block (suc j) to beats has = main_has (part_by (j % 3)) to beats has

beating_has : (j : ℕ) → is_beating j ≡ true → has_block j block.Qmgr ≡ true
beating_has zero beats = absurd (false≢true beats)
beating_has (suc j) beats = main_in (part_by (j % 3)) beats

-- no plain host sends to it
plain_place : (h : ℕ) (to : Place) → IsPlainPlace h to → to.block ≡ block.Qmgr → ⊥
plain_place zero to parts is = false≢true (sym (ap is_of_parts is) ∙ parts)
plain_place (suc h) to (inl parts) is = false≢true (sym (ap is_of_parts is) ∙ parts)
plain_place (suc h) to (inr at) is = absurd (cc (ap (λ (p : Place). p.block) at, is))

module _ (start : Start) where
  -- whoever is to take it takes it in calm
  abbrev IsTaken : Outgoing → Type 0
  IsTaken one =
      host_for start one.to < first_hosts start
      → (has_block (host_for start one.to) one.to.block && is_for one.to.block one.body) ≡ true

  plain_apart : (h : ℕ) (one : Outgoing) → IsPlainSend h one → IsTaken one → host_for start one.to < first_hosts start
      → is_beating (host_for start one.to) ≡ true → ⊥
  plain_apart h one plain takes low beats =
      plain_place h one.to plain.place
      (beating_block (host_for start one.to) one.to.block beats
      (and_parts (has_block (host_for start one.to) one.to.block) (is_for one.to.block one.body) (takes low)).0)

  -- what a plain host sends, which is calm
  pub plain_fine : (h stamp : ℕ) (count : ℕ → ℕ) (sends : List Outgoing)
      → Each (λ (x : Addressed). x.to < first_hosts start → is_calm x.to x.signal ≡ true)
      (all_addressed (first_membership start) h stamp count sends)
      → Each (IsPlainSend h) sends → Each (IsFineSend start h) sends
  plain_fine h stamp count [] all plain = tt
  plain_fine h stamp count (one ∷ more) all plain = (
    record {
      calm = all.0;
      round = λ low beats is. absurd (plain_apart h one plain.0 all.0 low beats);
      told = λ low beats is. absurd (plain_apart h one plain.0 all.0 low beats);
      work = plain.0.work;
    },
    plain_fine h stamp (counted (receiver (first_membership start) one.to) count) more all.1 plain.1,
  )

  pub plain_none : (h j : ℕ) (sends : List Outgoing) → j < first_hosts start → is_beating j ≡ true
      → Each (IsPlainSend h) sends → Each (IsFineSend start h) sends → tally (goes_to start j) sends ≡ 0
  plain_none h j [] low beats plain fine = refl
  plain_none h j (one ∷ more) low beats plain fine =
      let apart : host_for start one.to ≢ j =
      λ same.
      plain_apart h one plain.0 fine.0.calm (subst (λ k. k < first_hosts start) (sym same) low)
      (ap is_beating same ∙ beats) in
      omega (arith, ap one_if (ne_eqb (host_for start one.to) j apart), plain_none h j more low beats plain.1 fine.1)

  -- what is for the membership of a node
  membership_takes : (k : ℕ) (body : Body) → k < start.shape.nodes → is_for block.Qmgr body ≡ true
      → IsTaken (to_place (membership (k + 1)) body)
  membership_takes k body low takes there =
      and_from (has_block (host_for start (membership (k + 1))) block.Qmgr) (is_for block.Qmgr body)
      (ap (λ (j : ℕ). has_block j block.Qmgr) (main_reached start k low) ∙ beating_has (main_at k) (main_beats k)) takes

  -- rounds of time, which the shell tells
  round_fine : (k : ℕ) → k < start.shape.nodes → IsFineSend start 0 (round_for (first_start (k + 1)))
  round_fine k low =
      record {
        calm = membership_takes k (Host Round) low refl;
        round = λ there beats is. refl;
        told = λ there beats is. refl;
        work = refl;
      }

  pub besides_fine : (body : Body) → Each (IsFineSend start 0) (besides start 0 body)
  besides_fine body = each_besides (IsFineSend start 0) start 0 body round_fine

  -- one to each main part
  last_round : (p : Outgoing → Bool) (n : ℕ)
      → tally p (map round_for (members (suc n)))
      ≡ tally p (map round_for (members n)) + one_if (p (round_for (first_start (n + 1))))
  last_round p n =
      omega (
        arith,
        ap (tally p) (map-append round_for (members n) (first_start (n + 1) ∷ [])),
        tally_append p (map round_for (members n)) (round_for (first_start (n + 1)) ∷ []),
      )

  module _ (k : ℕ) where
    round_elsewhere : (n : ℕ) → n < start.shape.nodes → n ≢ k
        → one_if (goes_to start (main_at k) (round_for (first_start (n + 1)))) ≡ 0
    round_elsewhere n low apart =
        ap one_if (ne_eqb (host_for start (membership (n + 1))) (main_at k)
        (λ same. apart (omega (arith, main_reached start n low, same))))

    rounds_none : (n : ℕ) → n ≤ k → n ≤ start.shape.nodes
        → tally (goes_to start (main_at k)) (map round_for (members n)) ≡ 0
    rounds_none zero before few = refl
    rounds_none (suc n) before few =
        omega (
          arith,
          last_round (goes_to start (main_at k)) n,
          round_elsewhere n (omega (arith, few)) (λ same. absurd (omega (arith, same, before))),
          rounds_none n (omega (arith, before)) (omega (arith, few)),
        )

    rounds_one : (n : ℕ) → k < n → n ≤ start.shape.nodes
        → tally (goes_to start (main_at k)) (map round_for (members n)) ≡ 1
    rounds_one zero low few = absurd (omega (arith, low))
    rounds_one (suc n) low few = go (cases_eq n k) (rounds_one n)
      where
        go : (n ≡ k) ⊎ (n ≢ k)
            → (k < n → n ≤ start.shape.nodes → tally (goes_to start (main_at k)) (map round_for (members n)) ≡ 1)
            → tally (goes_to start (main_at k)) (map round_for (members (suc n))) ≡ 1
        go (inl same) before =
            omega (
              arith,
              last_round (goes_to start (main_at k)) n,
              ap one_if (eq-eqb (host_for start (membership (n + 1))) (main_at k)
                  (main_reached start n (omega (arith, few)) ∙ ap main_at same)),
              rounds_none n (omega (arith, same)) (omega (arith, few)),
            )
        go (inr apart) before =
            omega (
              arith,
              last_round (goes_to start (main_at k)) n,
              round_elsewhere n (omega (arith, few)) apart,
              before (omega (arith, low, apart)) (omega (arith, few)),
            )

    pub besides_one : (body : Body) → k < start.shape.nodes
        → tally (goes_to start (main_at k)) (besides start 0 body) ≡ one_if (is_tick body)
    besides_one body low = go (is_tick body)
      where
        go : (b : Bool)
            → tally (goes_to start (main_at k)) (if b then map round_for (members start.shape.nodes) else []) ≡ one_if b
        go true = rounds_one start.shape.nodes low (omega arith)
        go false = refl

  -- a heartbeat of a main part, which goes to the next one
  pub heartbeat_fine : (own k : ℕ) → k < start.shape.nodes
      → Each (IsFineSend start (main_at own)) (heartbeat_to (first_start (k + 1)) ∷ [])
  heartbeat_fine own k low = (
    record {
      calm = membership_takes k (Membership Heartbeat) low refl;
      round = λ there beats is. absurd cc;
      told = λ there beats is. absurd cc;
      work = refl;
    },
    tt,
  )

  pub heartbeat_one : (k : ℕ) → k < start.shape.nodes
      → tally (goes_to start (main_at k)) (heartbeat_to (first_start (k + 1)) ∷ []) ≡ 1
  heartbeat_one k low =
      omega (arith, ap one_if (eq-eqb (host_for start (membership (k + 1))) (main_at k) (main_reached start k low)))
