-- Who is heard, where so many blocks of each full member are.
use Rattle.std.proofs.Common.{◌≡◌, ◌≤◌, ◌⊎◌, ℕ, Bool, true, false, List, [], ◌∷◌, length, refl, ap, sym, ◌∙◌, subst}
use Rattle.std.proofs.Common.{inl, inr, arith}
use Rattle.std.proofs.lemmas.Bool.{and_from, and_parts, eq-eqb, eqb-true, false≢true, or_cases, or_parts}
use Rattle.std.specs.Prelude.{filter, if◌then◌else◌}
use Rattle.run_theory.specs.Lists.{Each, IsIn}
use Rattle.run_theory.proofs.Pasts.{each_append, each_map}
use Rattle.sig_core.specs.declared.member.Member.{Member}
use Rattle.gcp_master.specs.declared.voices.Voice.{Voice}
use Rattle.gcp_master.specs.Voices.{is_among, is_heard, is_of, same_member, same_voice, voices_of}
use Rattle.world_core.specs.Start.{Start}
use Rattle.world_core.specs.Steps.{HostStep}
use Rattle.epoch_laws.specs.Masters.{AreOnce, EachHeard, IsOfHosts}
use Rattle.epoch_laws.specs.Members.{epochs_of}
use Rattle.moment_laws.specs.Places.{ldm_of, tc_of}
use Rattle.epoch_laws.proofs.MasterMoves.{with_one}
use Rattle.dih_node.specs.State.{DihState}

each_both : {A : Type 0} (P Q : A → Type 0) (xs : List A) → Each P xs → Each Q xs → Each (λ x. P x × Q x) xs
each_both P Q [] p q = tt
each_both P Q (x ∷ xs) p q = ((p.0, q.0), each_both P Q xs p.1 q.1)

-- two members that are the same are equal
abbrev member_by : ℕ → ℕ → Member
member_by node start = record { node = node; start = start }

pub same_member-is : (one other : Member) → same_member one other ≡ true → one ≡ other
same_member-is one other e =
    let parts = and_parts _ _ e in
    let node : one.node ≡ other.node = eqb-true one.node other.node parts.0 in
    let start : one.start ≡ other.start = eqb-true one.start other.start parts.1 in
    ap (λ n. member_by n one.start) node ∙ ap (member_by other.node) start

pub same_member-self : (one other : Member) → one ≡ other → same_member one other ≡ true
same_member-self one other e =
    and_from _ _ (eq-eqb one.node other.node (ap (λ (m : Member). m.node) e))
    (eq-eqb one.start other.start (ap (λ (m : Member). m.start) e))

-- who is among these is one of them
pub among_in : (member : Member) (members : List Member) → is_among members member ≡ true → IsIn member members
among_in member [] e = absurd (false≢true e)
among_in member (other ∷ members) e = by (or_cases _ _ e) (among_in member members)
  where
    by : (same_member member other ≡ true) ⊎ (is_among members member ≡ true)
        → (is_among members member ≡ true → IsIn member members) → IsIn member (other ∷ members)
    by (inl same) deeper = inl (same_member-is member other same)
    by (inr rest) deeper = inr (deeper rest)

pub among_out : (member : Member) (members : List Member) → is_among members member ≡ false → IsIn member members → ⊥
among_out member [] e inside = inside
among_out member (other ∷ members) e (inl is) =
    false≢true (sym (or_parts (same_member member other) _ e).0 ∙ same_member-self member other is)
among_out member (other ∷ members) e (inr rest) =
    among_out member members (or_parts (same_member member other) _ e).1 rest

-- a confirmation of the member, among these
pub record IsHeardIn (member : Member) (voices : List Voice) (Q : Voice → Type 0) : Type 0 where
  pub voice : Voice
  pub inside : IsIn voice voices
  pub of : member ≡ voice.member
  pub holds : Q voice

more : {Q : Voice → Type 0} (member : Member) (first : Voice) (voices : List Voice) → IsHeardIn member voices Q
    → IsHeardIn member (first ∷ voices) Q
more member first voices h = record { voice = h.voice; inside = inr h.inside; of = h.of; holds = h.holds }

-- one of the member, and what is so of each
pub heard_one : (Q : Voice → Type 0) (member : Member) (voices : List Voice) → 1 ≤ voices_of voices member
    → Each Q voices → IsHeardIn member voices Q
heard_one Q member [] one all = absurd (omega (arith, one))
heard_one Q member (first ∷ voices) one all = by (is_of member first) refl one (heard_one Q member voices)
  where
    by : (own : Bool) → is_of member first ≡ own
        → 1 ≤ length (if own then first ∷ filter (is_of member) voices else filter (is_of member) voices)
        → (1 ≤ voices_of voices member → Each Q voices → IsHeardIn member voices Q)
        → IsHeardIn member (first ∷ voices) Q
    by true e one deeper =
        record { voice = first; inside = inl refl; of = same_member-is member first.member e; holds = all.0 }
    by false e one deeper = more member first voices (deeper one all.1)

module _ (start : Start) (logs : ℕ → List HostStep) where
  -- two blocks of one member, one after the other: they aren't both its rows
  both_rows : (member : Member) (first other : Voice) → member ≡ first.member → member ≡ other.member
      → first.from.0 ≡ ldm_of start first.member → other.from.0 ≡ ldm_of start other.member
      → same_voice other first ≡ true
  both_rows member first other of of_other from from_other =
      and_from _ _ (same_member-self other.member first.member (sym of_other ∙ of))
      (eq-eqb other.from.0 first.from.0
      (from_other ∙ ap (ldm_of start) (sym of_other ∙ of) ∙ sym from))

  -- it is heard from the host of its epochs
  abbrev pub IsOfEpochs : Voice → Type 0
  IsOfEpochs voice = voice.from.0 ≡ tc_of start voice.member

  -- where two blocks of the member are heard, one of them is that of its epochs
  pub heard_epochs : (member : Member) (voices : List Voice) → 2 ≤ voices_of voices member → AreOnce voices
      → Each (IsOfHosts start logs) voices → IsHeardIn member voices IsOfEpochs
  heard_epochs member [] two once hosts = absurd (omega (arith, two))
  heard_epochs member (first ∷ voices) two once hosts =
      by (is_of member first) refl two (heard_epochs member voices)
    where
      rest : member ≡ first.member → first.from.0 ≡ ldm_of start first.member
          → IsHeardIn member voices (λ other. (same_voice other first ≡ false) × IsOfHosts start logs other)
          → IsHeardIn member (first ∷ voices) IsOfEpochs
      rest of rows h = other h.holds.1
        where
          other : IsOfHosts start logs h.voice → IsHeardIn member (first ∷ voices) IsOfEpochs
          other (inl epochs) = record { voice = h.voice; inside = inr h.inside; of = h.of; holds = epochs }
          other (inr also) =
              absurd (false≢true (sym h.holds.0 ∙ both_rows member first h.voice of h.of rows also))

      own : member ≡ first.member → 1 ≤ voices_of voices member → IsOfHosts start logs first
          → IsHeardIn member (first ∷ voices) IsOfEpochs
      own of one (inl epochs) = record { voice = first; inside = inl refl; of = of; holds = epochs }
      own of one (inr rows) =
          rest of rows
          (heard_one (λ other. (same_voice other first ≡ false) × IsOfHosts start logs other) member voices one
          (each_both (λ other. same_voice other first ≡ false) (IsOfHosts start logs) voices once.0 hosts.1))

      by : (b : Bool) → is_of member first ≡ b
          → 2 ≤ length (if b then first ∷ filter (is_of member) voices else filter (is_of member) voices)
          → (2 ≤ voices_of voices member → AreOnce voices → Each (IsOfHosts start logs) voices
          → IsHeardIn member voices IsOfEpochs)
          → IsHeardIn member (first ∷ voices) IsOfEpochs
      by true e two deeper =
          own (same_member-is member first.member e) (omega (arith, two)) hosts.0
      by false e two deeper = more member first voices (deeper two once.1 hosts.1)

  -- one that wasn't heard, behind those that were
  pub once_more : (voices : List Voice) (voice : Voice) → AreOnce voices → is_heard voices voice ≡ false
      → AreOnce (with_one voices voice)
  once_more [] voice once e = (tt, tt)
  once_more (first ∷ voices) voice once e =
      let parts = or_parts (same_voice voice first) _ e in (
        each_append (λ other. same_voice other first ≡ false) voices (voice ∷ []) once.0 (parts.0, tt),
        once_more voices voice once.1 parts.1,
      )

  -- what is so of each that is heard is so of each full member, where all are
  pub all_by_one : (P : DihState → Type 0) (voices : List Voice) (members : List Member)
      → Each (λ member. 1 ≤ voices_of voices member) members → EachHeard start logs P voices
      → Each (λ member. P (epochs_of start logs member)) members
  all_by_one P voices members all heard = each_map _ _ members of all
    where
      of : (member : Member) → 1 ≤ voices_of voices member → P (epochs_of start logs member)
      of member one =
          let h = heard_one (λ voice. P (epochs_of start logs voice.member)) member voices one heard in
          subst (λ m. P (epochs_of start logs m)) (sym h.of) h.holds
