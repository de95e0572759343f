-- What changes of a host but by the events of its blocks is what these make of it, along any log.
use Rattle.std.proofs.Common.{◌≡◌, ◌||◌, ℕ, zero, suc, Bool, true, false, nat_lt, List, [], ◌∷◌, ◌++◌, refl, ap, sym}
use Rattle.std.proofs.Common.{◌∙◌}
use Rattle.std.specs.Prelude.{if◌then◌else◌, not, Option, None, Some}
use Rattle.sig_core.specs.declared.member.HostId.{HostId}
use Rattle.sig_core.specs.declared.outcome.StopCause.{StopCause}
use Rattle.sig_core.specs.declared.place.BlockId.{BlockId}
use Rattle.sig_core.specs.declared.reply.ApiReply.{ApiReply}
use Rattle.sig_core.specs.declared.signal.Body.{Body}
use Rattle.sig_core.specs.declared.signal.Body.TheVariants.{Host}
use Rattle.sig_core.specs.declared.signal.Signal.{Signal}
use Rattle.sig_core.specs.declared.signal.host.HostSignal.TheVariants.{Closed, Cut, Kill}
use Rattle.sig_core.specs.declared.view.View.{View}
use Rattle.sig_core.specs.Step.{Step}
use Rattle.api_views.specs.Members.{same_member}
use Rattle.node_views.specs.Blocks.{parts_row, settled_at}
use Rattle.node_views.specs.declared.host_body.HostBody as hosts
use Rattle.node_views.specs.declared.standing.Standing.{Standing}
use Rattle.node_views.specs.Replies.{with_replies}
use Rattle.node_views.specs.Row.{blocks_row, closed_if, counted_row, cut_if, entered, entering_if, headed_if}
use Rattle.node_views.specs.Row.{headed_row, host_row, host_table, is_barred, is_cut, is_excluded, killed_after}
use Rattle.node_views.specs.Row.{passed_if, passed_row, settle, standing_at, taken_if, with_parts}
use Rattle.node_views.specs.WellFormed.{is_first, is_well_formed}
use Rattle.qmgr_block.specs.Laws.{Event, installs}
use Rattle.world_core.specs.Start.{Start}
use Rattle.world_core.specs.Steps.{HostStep}
use Rattle.world_views.specs.Hosts.{started}
use Rattle.world_views.specs.Machine.{after, own_stop, step_by, step_if, told}
use Rattle.view_laws.specs.HostEvents.{block_events, counted_events, entering_events, events_at, events_by, events_of}
use Rattle.view_laws.specs.HostEvents.{headed_events, installing, is_handled, passed_events, sound_events, taking}

-- what events, the newest first, make of something
abbrev pub along : {A : Type 0} → (A → Event → A) → A → List Event → A
along step a [] = a
along step a (event ∷ events) = step (along step a events) event

pub along_append : {A : Type 0} (step : A → Event → A) (a : A) (new old : List Event)
    → along step a (new ++ old) ≡ along step (along step a old) new
along_append step a [] old = refl
along_append step a (event ∷ new) old = ap (λ b. step b event) (along_append step a new old)

-- What is seen of a host: an event does this to it, where a view is installed and where one of these blocks takes a
-- signal. Where the host stands matters but by its view, and the shell's replies don't.
pub record IsSeen {A : Type 0} (mine : BlockId → Bool) (seen : hosts.HostBody → A) (step : A → Event → A) : Type 0 where
  pub enters : (s : hosts.HostBody) (view : View) → seen (entered s view).state ≡ step (seen s) (installs view)
  pub takes_by : (s : hosts.HostBody) (x : Signal)
      → seen (with_parts s (parts_row s.parts x)).state ≡ along step (seen s) (taking mine x (mine x.to.block))
  pub stands : (s : hosts.HostBody) (standing : Standing) → standing.view ≡ s.standing.view
      → seen (standing_at s standing) ≡ seen s
  pub tells : (s : hosts.HostBody) (replies : List ApiReply) → seen (with_replies s replies) ≡ seen s

module _ {A : Type 0} (mine : BlockId → Bool) (seen : hosts.HostBody → A) (step : A → Event → A)
    (is : IsSeen mine seen step) where
  -- the step leads from this host to where these events do
  abbrev Goes : hosts.HostBody → Step hosts.HostBody → List Event → Type 0
  Goes s t events = seen t.state ≡ along step (seen s) events

  settle_goes : (s : hosts.HostBody) (x : Signal) (view : Option View)
      → Goes s (settle (with_parts s (parts_row s.parts x)) view)
      (installing mine view ++ taking mine x (mine x.to.block))
  settle_goes s x None = is.takes_by s x
  settle_goes s x (Some view) =
      is.enters (with_parts s (parts_row s.parts x)).state view ∙ ap (λ a. step a (installs view)) (is.takes_by s x)

  blocks_go : (s : hosts.HostBody) (x : Signal) → Goes s (blocks_row s x) (block_events mine s x)
  unfolding blocks_row
  blocks_go s x = settle_goes s x (settled_at s.parts x)

  -- what the host handles itself changes where it stands, but not in which view
  cut_goes : (s : hosts.HostBody) (first : HostId) (cut : Bool) → Goes s (cut_if s first cut) []
  cut_goes s first true = refl
  cut_goes s first false = is.stands s _ refl

  closed_goes : (s : hosts.HostBody) (x : Signal) (own : Bool)
      → Goes s (closed_if s x own) (if not own then block_events mine s x else [])
  closed_goes s x true = refl
  closed_goes s x false = blocks_go s x

  table_goes : (s : hosts.HostBody) (x : Signal) (body : Body)
      → Goes s (host_table s x body) (if not (is_handled s x body) then block_events mine s x else [])
  table_goes s x (Host (Kill zero)) = refl
  table_goes s x (Host (Kill (suc left))) = is.stands s _ refl
  table_goes s x (Host (Cut node first)) = cut_goes s first (is_cut s.standing first || not (is_first first))
  table_goes s x (Host (Closed cause)) = closed_goes s x (same_member s.standing.member x.member)
  table_goes s x _ = blocks_go s x

  passed_if_goes : (s : hosts.HostBody) (x : Signal) (barred : Bool)
      → Goes s (passed_if s x barred) (if not (barred || is_handled s x x.body) then block_events mine s x else [])
  passed_if_goes s x true = refl
  passed_if_goes s x false = table_goes s x x.body

  passed_goes : (s : hosts.HostBody) (x : Signal) → Goes s (passed_row s x) (passed_events mine s x)
  unfolding passed_row
  passed_goes s x = passed_if_goes s x (is_barred s x)

  entering_goes : (s : hosts.HostBody) (x : Signal) (excluded : Bool)
      → Goes s (entering_if s x excluded) (if excluded then [] else entering_events mine s x)
  entering_goes s x true = refl
  entering_goes s x false =
      let inside = (entered s x.view).state in
      passed_goes inside x
      ∙ ap (λ a. along step a (passed_events mine inside x)) (is.enters s x.view)
      ∙ sym (along_append step (seen s) (passed_events mine inside x) (installs x.view ∷ []))

  headed_if_goes : (s : hosts.HostBody) (x : Signal) (newer : Bool)
      → Goes s (headed_if s x newer)
      (if newer
      then (if is_excluded s.standing x.view then [] else entering_events mine s x)
      else passed_events mine s x)
  headed_if_goes s x true = entering_goes s x (is_excluded s.standing x.view)
  headed_if_goes s x false = passed_goes s x

  headed_goes : (s : hosts.HostBody) (x : Signal) → Goes s (headed_row s x) (headed_events mine s x)
  unfolding headed_row
  headed_goes s x = headed_if_goes s x (nat_lt s.standing.view.number x.view.number)

  counted_goes : (s : hosts.HostBody) (x : Signal) (left : Option ℕ)
      → Goes s (counted_row s x left) (counted_events mine s x left)
  counted_goes s x None = headed_goes s x
  counted_goes s x (Some zero) = refl
  counted_goes s x (Some (suc zero)) = refl
  counted_goes s x (Some (suc (suc left))) =
      let counted = standing_at s (killed_after s.standing (Some (suc left))) in
      headed_goes counted x ∙ ap (λ a. along step a (headed_events mine counted x)) (is.stands s counted.standing refl)

  taken_goes : (s : hosts.HostBody) (x : Signal) (sound : Bool)
      → Goes s (taken_if s x sound) (sound_events mine s x sound)
  taken_goes s x true = counted_goes s x s.standing.left
  taken_goes s x false = refl

  row_goes : (s : hosts.HostBody) (x : Signal)
      → Goes s (host_row s x) (sound_events mine s x (is_well_formed s.standing.shape x))
  unfolding host_row
  row_goes s x = taken_goes s x (is_well_formed s.standing.shape x)

  by_goes : (s : hosts.HostBody) (x : Signal) (cause : Option StopCause)
      → Goes s (step_if s x cause) (events_by mine s x cause)
  by_goes s x (Some cause) = refl
  by_goes s x None = row_goes s x

  -- a step of host h, whether or not its replies are told
  pub step_goes : (h : ℕ) (s : hosts.HostBody) (x : Signal) → Goes s (step_by h s x) (events_at mine h s x)
  step_goes h s x = by_goes s x (own_stop h x)

  told_goes : (h : ℕ) (t : Step hosts.HostBody) → seen (told h t) ≡ seen t.state
  told_goes zero t = is.tells t.state []
  told_goes (suc h) t = refl

  pub next_goes : (h : ℕ) (s : hosts.HostBody) (x : Signal)
      → seen (told h (step_by h s x)) ≡ along step (seen s) (events_at mine h s x)
  next_goes h s x = told_goes h (step_by h s x) ∙ step_goes h s x

  -- and so all steps of a log
  pub log_goes : (start : Start) (h : ℕ) (log : List HostStep)
      → seen (after start h log) ≡ along step (seen (started start h)) (events_of mine start h log)
  log_goes start h [] = refl
  log_goes start h (e ∷ log) =
      let new = events_at mine h (after start h log) e.step.taken in
      next_goes h (after start h log) e.step.taken
      ∙ ap (λ a. along step a new) (log_goes start h log)
      ∙ sym (along_append step (seen (started start h)) new (events_of mine start h log))
