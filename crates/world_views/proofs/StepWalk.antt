-- What a step of a host comes to: what is so wherever its blocks may take a signal, and where views are installed, is
-- so of the step; also of where the blocks come to and what they send alone.
use Rattle.std.proofs.Common.{◌≡◌, ◌++◌, ℕ, zero, suc, false, true, nat_lt, List, []}
use Rattle.std.specs.Prelude.{Option, None, Some}
use Rattle.sig_core.specs.declared.mark.Mark.{Mark}
use Rattle.sig_core.specs.declared.outcome.StopCause.{StopCause}
use Rattle.sig_core.specs.declared.outs.Outgoing.{Outgoing}
use Rattle.sig_core.specs.declared.signal.Signal.{Signal}
use Rattle.sig_core.specs.declared.view.View.{View}
use Rattle.sig_core.specs.Step.{Step}
use Rattle.node_views.specs.Blocks.{parts_entered, parts_row, settled_at}
use Rattle.node_views.specs.declared.host_body.HostBody as hosts
use Rattle.node_views.specs.declared.parts.Parts.{Parts}
use Rattle.node_views.specs.declared.standing.Standing.{Standing}
use Rattle.node_views.specs.Replies.{giving}
use Rattle.node_views.specs.Row.{entered, is_barred, is_excluded}
use Rattle.node_views.proofs.HostWalk as host
use Rattle.node_views.proofs.HostWalk.{HostSo, row_comes}
use Rattle.world_views.specs.Machine.{own_stop, step_by, step_if, told}

-- of where the host stands and its blocks come to, and what it sends and marks, also where it stops by a signal to
-- itself
pub step_so : (Says : host.Saying) (x : Signal) (h : ℕ) (s : hosts.HostBody) → HostSo Says s x
    → Says (step_by h s x).state.standing (step_by h s x).state.parts (step_by h s x).effects.sends
    (step_by h s x).effects.marks
step_so Says x h s walked = by (own_stop h x)
  where
    Comes : Step hosts.HostBody → Type 0
    Comes t = Says t.state.standing t.state.parts t.effects.sends t.effects.marks

    by : (o : Option StopCause) → Comes (step_if s x o)
    by (Some cause) = walked.own.stops s.standing s.parts [] [] cause walked.stays
    by None = row_comes Says x walked.own s walked

-- of the view that the host stands in, where its blocks come to, and what has been sent
abbrev pub Saying : Type 1
Saying = View → Parts → List Outgoing → Type 0

-- so it is where these blocks take the signal, behind what was sent before, also where they settle on a view at it
pub record IsTaken (Says : Saying) (x : Signal) (stood : View) (parts : Parts) (before : List Outgoing) : Type 0 where
  pub row : settled_at parts x ≡ None
      → Says stood (parts_row parts x).state (before ++ (parts_row parts x).effects.sends)
  pub settles : (view : View) → settled_at parts x ≡ Some view
      → Says view (parts_entered (parts_row parts x).state view).state
      (before ++ ((parts_row parts x).effects.sends ++ (parts_entered (parts_row parts x).state view).effects.sends))

-- so it is of all that may happen to the blocks of a host at a signal, whose view may be installed before
pub record IsWalked (Says : Saying) (s : hosts.HostBody) (x : Signal) : Type 0 where
  pub stays : Says s.standing.view s.parts []
  pub hushed : (view : View) (parts : Parts) (sends : List Outgoing) → Says view parts sends → Says view parts []
  pub goes : nat_lt s.standing.view.number x.view.number ≡ false → is_barred s x ≡ false
      → IsTaken Says x s.standing.view s.parts []
  pub enters : nat_lt s.standing.view.number x.view.number ≡ true → is_excluded s.standing x.view ≡ false
      → Says x.view (parts_entered s.parts x.view).state (parts_entered s.parts x.view).effects.sends
  pub behind : nat_lt s.standing.view.number x.view.number ≡ true → is_excluded s.standing x.view ≡ false
      → is_barred (entered s x.view).state x ≡ false
      → IsTaken Says x x.view (parts_entered s.parts x.view).state (parts_entered s.parts x.view).effects.sends

module _ (Says : Saying) (x : Signal) where
  -- whatever it marks, and wherever it stands but for the view
  abbrev Unmarked : host.Saying
  Unmarked standing parts sends marks = Says standing.view parts sends

  taken : (standing : Standing) (parts : Parts) (sends : List Outgoing) (marks : List Mark)
      → IsTaken Says x standing.view parts sends → host.TakesSo Unmarked x standing parts sends marks
  taken standing parts sends marks is = record { row = is.row; settles = is.settles }

  of_host : (s : hosts.HostBody) → IsWalked Says s x → HostSo Unmarked s x
  of_host s walked = record {
    own = record {
      counts = λ standing parts sends marks left so. so;
      cuts = λ standing parts sends marks first so. so;
      stops = λ standing parts sends marks cause so. so;
      hushes = λ standing parts sends marks stops so. walked.hushed standing.view parts sends so;
    };
    stays = walked.stays;
    goes = λ sound old barred left. taken _ s.parts [] [] (walked.goes old barred);
    enters = λ sound newer among left. walked.enters newer among;
    behind = λ sound newer among barred left. taken _ _ _ _ (walked.behind newer among barred);
  }

  pub step_comes : (h : ℕ) (s : hosts.HostBody) → IsWalked Says s x
      → Says (step_by h s x).state.standing.view (step_by h s x).state.parts (step_by h s x).effects.sends
  step_comes h s walked = step_so Unmarked x h s (of_host s walked)

  -- replies that are told change nothing of it, if they don't where the shell is
  pub next_comes : (h : ℕ) (s : hosts.HostBody) → IsWalked Says s x
      → ((view : View) (parts : Parts) (sends : List Outgoing) → Says view parts sends
      → Says view (giving parts []) sends)
      → Says (told h (step_by h s x)).standing.view (told h (step_by h s x)).parts (step_by h s x).effects.sends
  next_comes zero s walked tells =
      let t = step_by zero s x in tells t.state.standing.view t.state.parts t.effects.sends (step_comes zero s walked)
  next_comes (suc h) s walked tells = step_comes (suc h) s walked
