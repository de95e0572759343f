-- What becomes of a host at a signal: what is so wherever its blocks may take it, where views are installed before and
-- behind, and still where the host counts, cuts a node off or stops, is so of what its row does.
use Rattle.std.proofs.Common.{◌≡◌, ◌||◌, ◌++◌, ℕ, zero, suc, Bool, true, false, nat_lt, List, [], ◌∷◌, refl, sym, subst}
use Rattle.std.proofs.lemmas.List.{append-nil}
use Rattle.std.specs.Prelude.{is_some, not, Option, None, Some}
use Rattle.std.specs.List.{list_any}
use Rattle.sig_core.specs.declared.mark.Mark.{Mark}
use Rattle.sig_core.specs.declared.mark.Mark.TheVariants.{Installed, Stopped}
use Rattle.sig_core.specs.declared.member.HostId.{HostId}
use Rattle.sig_core.specs.declared.outcome.StopCause.{StopCause}
use Rattle.sig_core.specs.declared.outs.Outgoing.{Outgoing}
use Rattle.sig_core.specs.declared.signal.Body.{Body}
use Rattle.sig_core.specs.declared.signal.Body.TheVariants.{Host}
use Rattle.sig_core.specs.declared.signal.Signal.{Signal}
use Rattle.sig_core.specs.declared.signal.host.HostSignal.TheVariants.{Closed, Cut, Kill}
use Rattle.sig_core.specs.declared.view.View.{View}
use Rattle.sig_core.specs.Step.{Step}
use Rattle.api_views.specs.Members.{same_member}
use Rattle.node_views.specs.Blocks.{parts_entered, parts_row, settled_at}
use Rattle.node_views.specs.declared.host_body.HostBody as hosts
use Rattle.node_views.specs.declared.parts.Parts.{Parts}
use Rattle.node_views.specs.declared.standing.Standing.{Standing}
use Rattle.node_views.specs.Row.{blocks_row, closed_if, counted_row, counted_stop, cut_if, cut_marks, entered}
use Rattle.node_views.specs.Row.{entering_if, headed_if}
use Rattle.node_views.specs.Row.{headed_row, host_row, host_table, in_view, is_barred, is_cut, is_excluded, is_stop}
use Rattle.node_views.specs.Row.{kill_row, killed_after, passed_if, passed_row, settle, standing_at, stopping, taken_if}
use Rattle.node_views.specs.Row.{unless_stopped, with_parts}
use Rattle.node_views.specs.WellFormed.{is_first, is_well_formed}
use Rattle.node_views.proofs.StopWalk.{counted_stops}

-- of where the host stands, where its blocks come to, and what has been sent and marked
abbrev pub Saying : Type 1
Saying = Standing → Parts → List Outgoing → List Mark → Type 0

-- so it is where these blocks take the signal, behind what was sent and marked before, also where they settle on a view
-- at it
pub record TakesSo (Says : Saying) (x : Signal) (standing : Standing) (parts : Parts) (sends : List Outgoing)
    (marks : List Mark) : Type 0 where
  pub row : settled_at parts x ≡ None
      → Says standing (parts_row parts x).state (sends ++ (parts_row parts x).effects.sends)
      (marks ++ (parts_row parts x).effects.marks)
  pub settles : (view : View) → settled_at parts x ≡ Some view
      → Says (in_view standing view) (parts_entered (parts_row parts x).state view).state
      (sends ++ ((parts_row parts x).effects.sends ++ (parts_entered (parts_row parts x).state view).effects.sends))
      (marks ++ ((parts_row parts x).effects.marks ++ (parts_entered (parts_row parts x).state view).effects.marks))

-- and still where the host counts what it takes, cuts the hosts of a node off, stops, and sends nothing as it stops
pub record StaysSo (Says : Saying) : Type 0 where
  pub counts : (standing : Standing) (parts : Parts) (sends : List Outgoing) (marks : List Mark) (left : Option ℕ)
      → Says standing parts sends marks → Says (killed_after standing left) parts sends marks
  pub cuts : (standing : Standing) (parts : Parts) (sends : List Outgoing) (marks : List Mark) (first : HostId)
      → Says standing parts sends marks
      → Says (record standing { cut = standing.cut ++ first ∷ [] }) parts sends (marks ++ cut_marks first)
  pub stops : (standing : Standing) (parts : Parts) (sends : List Outgoing) (marks : List Mark) (cause : StopCause)
      → Says standing parts sends marks → Says standing parts sends (marks ++ Stopped cause ∷ [])
  pub hushes : (standing : Standing) (parts : Parts) (sends : List Outgoing) (marks : List Mark)
      → list_any is_stop marks ≡ true → Says standing parts sends marks → Says standing parts [] marks

-- all that may become of the host, however many signals it still takes; the view of the signal may be installed before
pub record HostSo (Says : Saying) (s : hosts.HostBody) (x : Signal) : Type 0 where
  pub own : StaysSo Says
  pub stays : Says s.standing s.parts [] []
  pub goes : is_well_formed s.standing.shape x ≡ true → nat_lt s.standing.view.number x.view.number ≡ false
      → is_barred s x ≡ false → (left : Option ℕ) → TakesSo Says x (killed_after s.standing left) s.parts [] []
  pub enters : is_well_formed s.standing.shape x ≡ true → nat_lt s.standing.view.number x.view.number ≡ true
      → is_excluded s.standing x.view ≡ false → (left : Option ℕ)
      → Says (in_view (killed_after s.standing left) x.view) (parts_entered s.parts x.view).state
      (parts_entered s.parts x.view).effects.sends (Installed x.view ∷ (parts_entered s.parts x.view).effects.marks)
  pub behind : is_well_formed s.standing.shape x ≡ true → nat_lt s.standing.view.number x.view.number ≡ true
      → is_excluded s.standing x.view ≡ false → is_barred (entered s x.view).state x ≡ false → (left : Option ℕ)
      → TakesSo Says x (in_view (killed_after s.standing left) x.view) (parts_entered s.parts x.view).state
      (parts_entered s.parts x.view).effects.sends (Installed x.view ∷ (parts_entered s.parts x.view).effects.marks)

module _ (Says : Saying) (x : Signal) (own : StaysSo Says) where
  -- a step of the host is so, behind what was sent and marked before
  abbrev Comes : List Outgoing → List Mark → Step hosts.HostBody → Type 0
  Comes sends marks t = Says t.state.standing t.state.parts (sends ++ t.effects.sends) (marks ++ t.effects.marks)

  -- where the signal is passed to the blocks, or is the host's own
  module _ (s : hosts.HostBody) (sends : List Outgoing) (marks : List Mark) (so : Says s.standing s.parts sends marks)
    where
      -- that nothing is sent changes nothing
      sends_none : (standing : Standing) (more : List Mark) → Says standing s.parts sends more
          → Says standing s.parts (sends ++ []) more
      sends_none standing more = subst (λ all. Says standing s.parts all more) (sym (append-nil sends))

      quiet : (standing : Standing) → Says standing s.parts sends marks
          → Says standing s.parts (sends ++ []) (marks ++ [])
      quiet standing is =
          subst (λ all. Says standing s.parts (sends ++ []) all) (sym (append-nil marks)) (sends_none standing marks is)

      stopped : (cause : StopCause) → Comes sends marks (stopping s cause)
      stopped cause =
          sends_none s.standing (marks ++ Stopped cause ∷ []) (own.stops s.standing s.parts sends marks cause so)

      killed_comes : (after : ℕ) → Comes sends marks (kill_row s after)
      killed_comes zero = stopped _
      killed_comes (suc after) =
          quiet (killed_after s.standing (Some (suc after)))
          (own.counts s.standing s.parts sends marks (Some (suc after)) so)

      cut_comes : (first : HostId) (b : Bool) → Comes sends marks (cut_if s first b)
      cut_comes first true = quiet s.standing so
      cut_comes first false = sends_none _ (marks ++ cut_marks first) (own.cuts s.standing s.parts sends marks first so)

      module _ (taken : TakesSo Says x s.standing s.parts sends marks) where
        blocks_come : Comes sends marks (blocks_row s x)
        unfolding blocks_row entered
        blocks_come = by (settled_at s.parts x) refl
          where
            by : (o : Option View) → settled_at s.parts x ≡ o
                → Comes sends marks (settle (with_parts s (parts_row s.parts x)) o)
            by None is = taken.row is
            by (Some view) is = taken.settles view is

        closed_comes : (b : Bool) → Comes sends marks (closed_if s x b)
        closed_comes true = stopped _
        closed_comes false = blocks_come

        table_comes : (body : Body) → Comes sends marks (host_table s x body)
        table_comes (Host (Kill after)) = killed_comes after
        table_comes (Host (Cut node first)) = cut_comes first (is_cut s.standing first || not (is_first first))
        table_comes (Host (Closed cause)) = closed_comes (same_member s.standing.member x.member)
        table_comes body = blocks_come

      passed_comes : (is_barred s x ≡ false → TakesSo Says x s.standing s.parts sends marks)
          → Comes sends marks (passed_row s x)
      unfolding passed_row
      passed_comes taken = by (is_barred s x) refl
        where
          by : (b : Bool) → is_barred s x ≡ b → Comes sends marks (passed_if s x b)
          by true is = quiet s.standing so
          by false is = table_comes (taken is) x.body

  -- where its view may be installed, for a host that still takes so many signals
  module _ (s : hosts.HostBody) (walked : HostSo Says s x) (sound : is_well_formed s.standing.shape x ≡ true) where
    module _ (left : Option ℕ) where
      abbrev counted : hosts.HostBody
      counted = standing_at s (killed_after s.standing left)

      stays : Says counted.standing s.parts [] []
      stays = own.counts s.standing s.parts [] [] left walked.stays

      headed_comes : Comes [] [] (headed_row counted x)
      unfolding headed_row entered
      headed_comes = by (nat_lt s.standing.view.number x.view.number) refl
        where
          unless_excluded : nat_lt s.standing.view.number x.view.number ≡ true → (b : Bool)
              → is_excluded s.standing x.view ≡ b → Comes [] [] (entering_if counted x b)
          unless_excluded newer true is = stopped counted [] [] stays _
          unless_excluded newer false is =
              passed_comes (entered counted x.view).state (parts_entered s.parts x.view).effects.sends
              (Installed x.view ∷ (parts_entered s.parts x.view).effects.marks) (walked.enters sound newer is left)
              (λ barred. walked.behind sound newer is barred left)

          by : (b : Bool) → nat_lt s.standing.view.number x.view.number ≡ b → Comes [] [] (headed_if counted x b)
          by true is = unless_excluded is (is_excluded s.standing x.view) refl
          by false is = passed_comes counted [] [] stays (λ barred. walked.goes sound is barred left)

    counted_comes : (left : Option ℕ) → s.standing.left ≡ left → Comes [] [] (counted_row s x left)
    counted_comes None is = headed_comes s.standing.left
    counted_comes (Some zero) is = stopped s [] [] walked.stays _
    counted_comes (Some (suc zero)) is = stopped s [] [] walked.stays _
    counted_comes (Some (suc (suc left))) is = headed_comes (Some (suc left))

  -- whatever signal it is; a host that stops sends nothing
  pub row_comes : (s : hosts.HostBody) → HostSo Says s x
      → Says (host_row s x).state.standing (host_row s x).state.parts (host_row s x).effects.sends
      (host_row s x).effects.marks
  unfolding host_row
  row_comes s walked = by (is_well_formed s.standing.shape x) refl
    where
      step : Step hosts.HostBody
      step = counted_row s x s.standing.left

      hushed : Comes [] [] step → (b : Bool) → list_any is_stop step.effects.marks ≡ b
          → Says step.state.standing step.state.parts (unless_stopped step.effects.sends b) step.effects.marks
      hushed comes true is =
          own.hushes step.state.standing step.state.parts step.effects.sends step.effects.marks is comes
      hushed comes false is = comes

      by : (b : Bool) → is_well_formed s.standing.shape x ≡ b → Comes [] [] (taken_if s x b)
      by true is =
          hushed (counted_comes s walked is s.standing.left refl) (is_some (counted_stop s x s.standing.left))
          (counted_stops s x s.standing.left)
      by false is = walked.stays
