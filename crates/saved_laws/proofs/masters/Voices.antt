-- Of which blocks of the members a master has heard: where two of a member are, one is that of its rows.
use Rattle.std.proofs.Common.{◌≡◌, ◌≤◌, ℕ, Bool, true, false, List, [], ◌∷◌, length, refl, ap, sym, ◌∙◌, subst, inl}
use Rattle.std.proofs.Common.{inr, arith}
use Rattle.std.proofs.lemmas.Bool.{and_from, eq-eqb, false≢true}
use Rattle.std.specs.Prelude.{filter, if◌then◌else◌}
use Rattle.run_theory.proofs.Pasts.{each_map}
use Rattle.run_theory.specs.Lists.{Each}
use Rattle.sig_core.specs.declared.member.Member.{Member}
use Rattle.gcp_master.specs.declared.voices.Voice.{Voice}
use Rattle.gcp_master.specs.Voices.{is_of, same_voice, voices_of}
use Rattle.world_core.specs.Start.{Start}
use Rattle.world_core.specs.Steps.{HostStep}
use Rattle.moment_laws.specs.Places.{ldm_of, tc_of}
use Rattle.commit_laws.proofs.parts.Sent.{both_each}
use Rattle.epoch_laws.specs.Masters.{AreOnce, IsOfHosts}
use Rattle.epoch_laws.proofs.MasterHears.{IsHeardIn, heard_one, same_member-is, same_member-self}

-- what is so of each that is heard is so of each member of whom one is
pub each_by_one : (P : Member → Type 0) (voices : List Voice) (members : List Member)
    → Each (λ member. 1 ≤ voices_of voices member) members → Each (λ (voice : Voice). P voice.member) voices
    → Each P members
each_by_one P voices members all heard = each_map (λ member. 1 ≤ voices_of voices member) P members of all
  where
    of : (member : Member) → 1 ≤ voices_of voices member → P member
    of member one =
        let h = heard_one (λ (voice : Voice). P voice.member) member voices one heard in subst P (sym h.of) h.holds

behind : {Q : Voice → Type 0} (member : Member) (first : Voice) (voices : List Voice) → IsHeardIn member voices Q
    → IsHeardIn member (first ∷ voices) Q
behind member first voices h = record { voice = h.voice; inside = inr h.inside; of = h.of; holds = h.holds }

module _ (start : Start) (logs : ℕ → List HostStep) where
  -- two blocks of one member, one after the other: they aren't both its epochs
  both_epochs : (member : Member) (first other : Voice) → member ≡ first.member → member ≡ other.member
      → first.from.0 ≡ tc_of start first.member → other.from.0 ≡ tc_of start other.member
      → same_voice other first ≡ true
  both_epochs member first other of of_other from from_other =
      and_from _ _ (same_member-self other.member first.member (sym of_other ∙ of))
      (eq-eqb other.from.0 first.from.0 (from_other ∙ ap (tc_of start) (sym of_other ∙ of) ∙ sym from))

  -- it is heard from the host of its rows
  abbrev pub IsOfRows : Voice → Type 0
  IsOfRows voice = voice.from.0 ≡ ldm_of start voice.member

  pub heard_rows : (member : Member) (voices : List Voice) → 2 ≤ voices_of voices member → AreOnce voices
      → Each (IsOfHosts start logs) voices → IsHeardIn member voices IsOfRows
  heard_rows member [] two once hosts = absurd (omega (arith, two))
  heard_rows member (first ∷ voices) two once hosts = by (is_of member first) refl two (heard_rows member voices)
    where
      rest : member ≡ first.member → first.from.0 ≡ tc_of start first.member
          → IsHeardIn member voices (λ other. (same_voice other first ≡ false) × IsOfHosts start logs other)
          → IsHeardIn member (first ∷ voices) IsOfRows
      rest of epochs h = other h.holds.1
        where
          other : IsOfHosts start logs h.voice → IsHeardIn member (first ∷ voices) IsOfRows
          other (inr rows) = record { voice = h.voice; inside = inr h.inside; of = h.of; holds = rows }
          other (inl also) =
              absurd (false≢true (sym h.holds.0 ∙ both_epochs member first h.voice of h.of epochs also))

      own : member ≡ first.member → 1 ≤ voices_of voices member → IsOfHosts start logs first
          → IsHeardIn member (first ∷ voices) IsOfRows
      own of one (inr rows) = record { voice = first; inside = inl refl; of = of; holds = rows }
      own of one (inl epochs) =
          rest of epochs
          (heard_one (λ other. (same_voice other first ≡ false) × IsOfHosts start logs other) member voices one
          (both_each (λ other. same_voice other first ≡ false) (IsOfHosts start logs)
          (λ other. (same_voice other first ≡ false) × IsOfHosts start logs other) voices
          (λ other apart of_hosts. (apart, of_hosts)) once.0 hosts.1))

      by : (b : Bool) → is_of member first ≡ b
          → 2 ≤ length (if b then first ∷ filter (is_of member) voices else filter (is_of member) voices)
          → (2 ≤ voices_of voices member → AreOnce voices → Each (IsOfHosts start logs) voices
          → IsHeardIn member voices IsOfRows)
          → IsHeardIn member (first ∷ voices) IsOfRows
      by true e two deeper = own (same_member-is member first.member e) (omega (arith, two)) hosts.0
      by false e two deeper = behind member first voices (deeper two once.1 hosts.1)
