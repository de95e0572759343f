-- Proposals of one membership, as ballots have them: who joins by one, and where a new one stands.
use Rattle.std.proofs.Common.{◌≡◌, ◌<◌, ◌&&◌, ◌++◌, Bool, true, false, List, [], ◌∷◌, refl, sym, subst, inl}
use Rattle.std.proofs.lemmas.Bool.{lt-ltb}
use Rattle.std.specs.Prelude.{if◌then◌else◌, Option, None, Some}
use Rattle.run_theory.specs.Lists.{IsIn}
use Rattle.sig_core.specs.declared.member.Member.{Member}
use Rattle.sig_core.specs.declared.view.View.{View}
use Rattle.qmgr_block.specs.declared.known.Known.{Known}
use Rattle.qmgr_block.specs.declared.known.Proposal.{Proposal}
use Rattle.qmgr_block.specs.Propose.{proposal_by}
use Rattle.qmgr_block.specs.Sets as sets
use Rattle.view_laws.specs.Ballots.{Proposed}
use Rattle.view_laws.specs.Members.{change_by, promotion_among, proposed_at, proposed_if}
use Rattle.view_laws.specs.Sets.{joining, promotes}

-- what is proposed, as ballots have it
abbrev pub entry_of : View → View → Option Member → Proposed
entry_of base set who = record { set = set; change = change_by base set who; base = base }

-- the member that joins is read off a proposal
promotion_joins : (base set : View) (members : List Member) → joining (promotion_among base set members) ≡ None
promotion_joins base set [] = refl
promotion_joins base set (member ∷ members) =
    by (sets.promotes base set member) (promotion_joins base set members)
  where
    by : (b : Bool) → joining (promotion_among base set members) ≡ None
        → joining (if b then promotes member else promotion_among base set members) ≡ None
    by true rest = refl
    by false rest = rest

pub change_joins : (base set : View) (who : Option Member) → joining (change_by base set who) ≡ who
change_joins base set None = promotion_joins base set set.full
change_joins base set (Some member) = refl

-- a new proposal stands among all that its member has proposed
pub new_there : (k : Known) (older : List Proposed) (outstanding : Option Proposal) (set : View)
    (who : Option Member) → outstanding ≡ Some (proposal_by set who None) → k.proposed < set.number
    → IsIn (entry_of k.layout.view set who) (proposed_at k outstanding ++ older)
new_there k older outstanding set who is above =
    let entry = entry_of k.layout.view set who in
    subst (λ (o : Option Proposal). IsIn entry (proposed_at k o ++ older)) (sym is)
    (subst
    (λ (b : Bool). IsIn entry (proposed_if k.layout.view (proposal_by set who None) (b && true) ++ older))
    (sym (lt-ltb k.proposed set.number above)) (inl refl))
