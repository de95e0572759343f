-- What the rows of the membership change of what it knows beside its last promise and its proposals: nothing else that
-- matters.
use Rattle.std.proofs.Common.{◌≡◌, ◌≤◌, ◌&&◌, ℕ, Bool, true, false, refl, subst, ◌∙◌}
use Rattle.std.proofs.lemmas.Bool.{false≢true}
use Rattle.std.specs.Prelude.{if◌then◌else◌, None, Some}
use Rattle.sig_core.specs.declared.member.Member.{Member}
use Rattle.sig_core.specs.declared.view.View.{View}
use Rattle.sig_core.specs.Step.{Step, stay}
use Rattle.qmgr_block.specs.declared.known.Known.{Known}
use Rattle.qmgr_block.specs.declared.known.Proposal.{Proposal}
use Rattle.qmgr_block.specs.Decide.{heard, with_unlike}
use Rattle.qmgr_block.specs.Promise.{promising, with_absent, with_missing_from}
use Rattle.qmgr_block.specs.Ring.{with_missing, with_round}
use Rattle.qmgr_block.specs.Sets.{is_special, members_of}
use Rattle.qmgr_block.specs.Starts.{all_noted, noted}
use Rattle.qmgr_block.specs.Suspects.{presides, with_closed, with_closing, with_suspect}
use Rattle.sig_core.specs.declared.signal.Body.TheVariants.{Membership}
use Rattle.sig_core.specs.declared.signal.membership.MembershipSignal.TheVariants.{FailRep}
use Rattle.sig_core.specs.Place.{membership}
use Rattle.sig_core.specs.Step.{sending}
use Rattle.qmgr_block.specs.Propose.{proposed_by, proposed_view, remaining_view}
use Rattle.qmgr_block.specs.Suspects.{president}
use Rattle.qmgr_block.proofs.Outcomes.{ToldForms}
use Rattle.view_laws.proofs.memberships.RowChanges.{Keeps, IsNotAbove, Like, Moves, both_like, closed_like, like_on}
use Rattle.view_laws.proofs.memberships.RowChanges.{like_self, moves_like, moves_proposed, remains, suspect_like}

-- heartbeats
round_if : (k : Known) (n : ℕ) (less : Bool) → Like k (if less then record k { missed = n } else k) k.promised
round_if k n true = record { me = refl; layout = refl; promised = refl; proposed = refl; outstanding = refl }
round_if k n false = like_self k

missing_if : (k : Known) (before : Member) (all : Bool) → Like k (if all then with_suspect k before else k) k.promised
missing_if k before true = suspect_like k before
missing_if k before false = like_self k

pub missed_like : (k : Known) (before : Member) → Like k (with_missing (with_round k) before) k.promised
missed_like k before =
    let rounded = with_round k in
    like_on k rounded (with_missing rounded before) k.promised (round_if k _ _) (missing_if rounded before _)

pub closing_like : (k : Known) (member : Member) → Like k (with_closing k member) k.promised
closing_like k member =
    let l : Known = record k { closed = noted k.closed member } in
    like_on k l (with_closed l) k.promised
    (record { me = refl; layout = refl; promised = refl; proposed = refl; outstanding = refl }) (closed_like l)

-- what a promise changes beside the last promise
absent_if : (k : Known) (set : View) (special : Bool)
    → Like k (if special then k else with_missing_from k set) k.promised
absent_if k set true = like_self k
absent_if k set false = both_like k _ _

pub absent_like : (k : Known) (set : View) → Like k (with_absent k set) k.promised
unfolding with_absent
absent_like k set = absent_if k set (is_special k.layout.view set)

promising_like : (k : Known) (set : View) → Like k (promising k set) set
unfolding promising
promising_like k set =
    let l : Known = record k { promised = set; seen = all_noted k.seen (members_of set) } in
    like_on k l (with_closed l) set
    (record { me = refl; layout = refl; promised = refl; proposed = refl; outstanding = refl }) (closed_like l)

-- what another step is like, is like it too, whatever was promised between
like_over : (k l m : Known) (last : View) → Like k l k.promised → Like l m last → Like k m last
like_over k l m last one other = record {
  me = other.me ∙ one.me;
  layout = other.layout ∙ one.layout;
  promised = other.promised;
  proposed = other.proposed ∙ one.proposed;
  outstanding = other.outstanding ∙ one.outstanding;
}

pub promised_like : (k : Known) (set : View) → Like k (promising (with_absent k set) set) set
promised_like k set =
    like_over k (with_absent k set) _ set (absent_like k set) (promising_like (with_absent k set) set)

-- what becomes of a proposal
pub keeps_heard : (k : Known) (p : Proposal) (member : Member) → k.outstanding ≡ Some p
    → Keeps k (record k { outstanding = Some (heard p member) })
keeps_heard k p member e = record {
  proposed = refl;
  low = λ number low. subst (IsNotAbove number) e low;
}

pub unlike_like : (k : Known) (set other : View) → Like k (with_unlike k set other) k.promised
unfolding with_unlike
unlike_like k set other = both_like k _ _

pub starting_if : (a b c d : Bool) → (a && b && c && d) ≡ true → b ≡ true
starting_if true true true true e = refl
starting_if true true true false e = absurd (false≢true e)
starting_if true true false d e = absurd (false≢true e)
starting_if true false c d e = absurd (false≢true e)
starting_if false b c d e = absurd (false≢true e)

-- what comes of suspects, where A says what is so of the signal
pub told_moves : (A : Type 0) (k l : Known) (last : View) → Like k l last → k.promised.number ≤ last.number
    → (T : Step Known → Type 0) → ((step : Step Known) → Moves A k last step → T step) → ToldForms l T
unfolding presides president proposed_view
told_moves A k l last like rises T to =
    record {
      rests = to (stay l) (moves_like A k last (stay l) like refl);
      proposes = λ lost joined own room is.
          to (proposed_by l (remaining_view l) None lost)
          (subst (λ lost. Moves A k last (proposed_by l (remaining_view l) None lost)) is
          (moves_proposed A k l last like rises (remaining_view l) None refl (remains l.suspects own refl refl refl)));
      tells = λ member joined other is.
          to (sending l (membership member.node) (Membership (FailRep l.suspects))) (moves_like A k last _ like refl);
    }
