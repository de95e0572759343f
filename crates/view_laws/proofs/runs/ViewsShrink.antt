-- In right logs views only shrink: nobody is starting in any of them.
use Rattle.std.proofs.Common.{◌≡◌, ℕ, List, [], ap, ◌∙◌, inl, inr}
use Rattle.frag_map.specs.Shape.{IsShape}
use Rattle.sig_core.specs.declared.view.View.{View}
use Rattle.world_core.specs.Start.{Start, made}
use Rattle.world_core.specs.Steps.{HostStep}
use Rattle.view_laws.specs.Ballots.{IsChosen}
use Rattle.view_laws.specs.Runs.{ballots_of, events_in}
use Rattle.view_laws.specs.Standing.{ViewsOnlyShrink}
use Rattle.view_laws.proofs.runs.Growth.{from_flat}
use Rattle.view_laws.proofs.runs.AllSound.{have_orderly, logs_sound}
use Rattle.view_laws.proofs.runs.OrderlyBallots.{own_proposal, sound_orderly}
use Rattle.view_laws.proofs.runs.Sound.{AreSoundLogs, proposed_in}
use Rattle.view_laws.proofs.runs.ChosenViews.{installed_chosen}
use Rattle.view_laws.proofs.ballots.OnlyShrink.{chosen_shrink}

-- a chosen set has nobody that is starting
pub none_starting : (start : Start) (logs : ℕ → List HostStep) → IsShape start.shape → AreSoundLogs start logs
    → (set : View) → IsChosen start.shape (ballots_of start logs) set → set.starting ≡ []
none_starting start logs is_shape sound set (inl is) = ap (λ (v : View). v.starting) is
none_starting start logs is_shape sound set (inr won) =
    let one = from_flat (λ me. proposed_in start logs me) (made start) won.proposal won.there in
    let own =
    own_proposal start logs is_shape one.of (events_in start logs one.of) (sound.members one.of one.there) won.proposal
    one.is in
    ap (λ (v : View). v.starting) won.is ∙ own.of.none

pub views_shrink : ViewsOnlyShrink
views_shrink start logs are one other was was_too less =
    let sound = logs_sound start logs are in
    chosen_shrink start.shape are.shape (ballots_of start logs) (sound_orderly start logs are.shape sound are.nobody)
    (none_starting start logs are.shape sound) one other
    (installed_chosen have_orderly start logs are one was)
    (installed_chosen have_orderly start logs are other was_too) less
