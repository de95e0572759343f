-- What becomes of a signal in the hand of a host.
use Rattle.std.proofs.Common.{◌≡◌, inl, inr, ℕ, zero, suc, ◌<◌, ◌≤◌, List, [], ◌∷◌, ◌++◌, length, Bool, true, false}
use Rattle.std.proofs.Common.{refl, ap, sym, ◌∙◌, subst}
use Rattle.std.specs.Prelude.{Err, get_or, IfSome, is_some, MatchOption, nat_lt, None, Ok, OnOk, Option, Result}
use Rattle.std.specs.Prelude.{slice_set, Some, ◌^◌}
use Rattle.std.proofs.lemmas.Bool.{lt-ltb, true≢false}
use Rattle.std.proofs.lemmas.List.{get_or-set_same, get_or_read, length-set, set-set}
use Rattle.frag_map.specs.Layout.{first_layout}
use Rattle.sig_core.specs.declared.log.HostLog.{HostLog}
use Rattle.sig_core.specs.declared.mark.Mark.{Mark}
use Rattle.sig_core.specs.declared.mark.Mark.TheVariants.{Stopped}
use Rattle.sig_core.specs.declared.no_memory.NoMemory.{NoMemory}
use Rattle.sig_core.specs.declared.outcome.StopCause.{StopCause}
use Rattle.sig_core.specs.declared.outcome.StopCause.TheVariants.{Memory}
use Rattle.sig_core.specs.declared.reply.ApiReply.{ApiReply}
use Rattle.sig_core.specs.declared.signal.Signal.{Signal}
use Rattle.sig_core.specs.declared.view.View.{View}
use Rattle.sig_core.specs.Step.{Effects, IsTaken, Step, nothing, stay}
use Rattle.node_views.specs.declared.host_body.HostBody.{HostBody}
use Rattle.node_views.specs.Fresh.{fresh_shell}
use Rattle.node_views.specs.Row.{host_row, host_stop}
use Rattle.node_views.specs.Stop.{stop_in}
use Rattle.node_views.proofs.StopMarks.{stops_by_cause}
use Rattle.node_views.proofs.StopWalk.{marks_tell_of_stops}
use Rattle.world_core.specs.Steps.{Addressed}
use Rattle.world_core.specs.World.{next_stamp, with_step}
use Rattle.world_views.specs.Machine.{cause_in, own_stop, replies_at, step_by, step_if, stops_by, told}
use Rattle.world_views.specs.Schedule.{HasTaken, is_discarded, taken_if}
use Rattle.world_views.specs.World.{body_at, closing, closing_if, entered, halted, handled_by, HasHandled, is_stamp}
use Rattle.world_views.specs.World.{logged, sending, step_made, stopped, telling, Whole, with_body}

-- a host where there is none
abbrev nobody : HostBody
nobody = fresh_shell (first_layout (record { nodes = 0; replicas = 0; fragments = 0 }))

-- what was read of the hosts
pub body_read : (bodies : List HostBody) (h : ℕ) (s : HostBody) → h < length bodies → s ≡ get_or bodies h s
    → s ≡ body_at bodies h
body_read bodies h s there is = get_or_read bodies h s there is nobody

-- the world behind a step, where the hosts are these then
abbrev pub entered_in : Whole → ℕ → Addressed → Step HostBody → List HostBody → Whole
entered_in w lost x t bodies =
    logged
    (closing_if (stops_by t.effects.marks)
    (sending (record w { bodies = bodies; replies = w.replies ++ replies_at x.to t }) x.to (step_made w x t).stamp
    t.effects.sends)
    x.to (step_made w x t).stamp x.signal.view (cause_in t.effects.marks) lost) x t

-- what a host was just before its step is forgotten by it
pub entered_over : (w : Whole) (lost : ℕ) (x : Addressed) (s : HostBody) (t : Step HostBody)
    → entered (with_body w x.to s) lost x t ≡ entered w lost x t
entered_over w lost x s t = ap (entered_in w lost x t) (set-set w.bodies x.to s (told x.to t))

-- a host handled a signal that it didn't ask itself for so as to stop
pub row_taken : (w : Whole) (x : Addressed) (s : HostBody) (out : Effects) → x.to < length w.bodies
    → IsTaken (host_row (body_at w.bodies x.to) x.signal) s nothing out → own_stop x.to x.signal ≡ None
    → record { state = body_at (slice_set w.bodies x.to s) x.to; effects = out }
    ≡ step_by x.to (body_at w.bodies x.to) x.signal
row_taken w x s out there taken plain =
    ap (λ (b : HostBody). record { state = b; effects = out })
    (get_or-set_same w.bodies x.to s nobody there ∙ taken.state)
    ∙ ap (λ (e : Effects). record { state = (host_row (body_at w.bodies x.to) x.signal).state; effects = e })
    taken.effects
    ∙ sym (ap (λ (o : Option StopCause). step_if (body_at w.bodies x.to) x.signal o) plain)

-- there is a stamp for its step, just where the step before and the signal have lesser ones than the last that there is
pub stamp_is : (stamps : List ℕ) (h sent at : ℕ) → at ≡ next_stamp stamps h sent → (at < 2 ^ 48)
    → is_stamp (next_stamp stamps h sent) ≡ true
stamp_is stamps h sent at is below = subst (λ n. nat_lt n (2 ^ 48) ≡ true) is (lt-ltb at (2 ^ 48) below)

-- where there is a stamp it has moved, or had no memory
pub has_moved : (result : Result (Unit {0}) NoMemory) (w u : Whole) (x : Addressed) (s : HostBody) (out : Effects)
    → is_stamp (next_stamp w.stamps x.to x.signal.stamp) ≡ true
    → x.to < length w.bodies → IsTaken (host_row (body_at w.bodies x.to) x.signal) s nothing out
    → own_stop x.to x.signal ≡ None
    → OnOk result (u ≡ entered (with_body w x.to s) 0 x (record {
      state = body_at (slice_set w.bodies x.to s) x.to;
      effects = out;
    }))
    → OnOk result (HasHandled w x u)
has_moved (Err fault) w u x s out stamp there taken plain is = tt
has_moved (Ok done) w u x s out stamp there taken plain is =
    subst (λ b. handled_by b w x u) (sym stamp)
    (inl (is ∙ ap (λ (t : Step HostBody). entered (with_body w x.to s) 0 x t) (row_taken w x s out there taken plain)
    ∙ entered_over w 0 x s (step_by x.to (body_at w.bodies x.to) x.signal)))

-- it stands in the view that it had before: either that was kept, or the step didn't install another
pub stands_before : (kept : Option View) (before : View) (number : ℕ) (left again back : HostBody) → again ≡ left
    → MatchOption kept (number ≤ before.number) (λ v. v ≡ before)
    → (number ≤ before.number → left.standing.view ≡ before)
    → MatchOption kept (back ≡ again) (λ v. back.standing.view ≡ v) → back.standing.view ≡ before
stands_before None before number left again back same least seen is =
    ap (λ (s : HostBody). s.standing.view) (is ∙ same) ∙ seen least
stands_before (Some view) before number left again back same own seen is = is ∙ own

-- what is read of a host that was put there
pub read_back : (bodies : List HostBody) (h : ℕ) (left again : HostBody) → h < length bodies
    → again ≡ get_or (slice_set bodies h left) h again → again ≡ left
read_back bodies h left again there read =
    body_read (slice_set bodies h left) h again (subst (λ n. h < n) (sym (length-set bodies h left)) there) read
    ∙ get_or-set_same bodies h left nobody there

-- it had no memory, and is this now, in that view
pub has_no_memory : (result : Result (Unit {0}) NoMemory) (w u : Whole) (x : Addressed) (left back : HostBody)
    → x.to < length w.bodies → is_stamp (next_stamp w.stamps x.to x.signal.stamp) ≡ true
    → back.standing.view ≡ (body_at w.bodies x.to).standing.view
    → back.standing.cut ≡ (body_at w.bodies x.to).standing.cut → OnOk result (1 ≤ x.to)
    → OnOk result (u ≡ stopped (with_body (with_body w x.to left) x.to back) x.to Memory 0)
    → OnOk result (HasHandled w x u)
has_no_memory (Err fault) w u x left back there stamp seen cut some failed = tt
has_no_memory (Ok done) w u x left back there stamp seen cut some failed =
    let h = x.to in
    let over : slice_set (slice_set w.bodies h left) h back ≡ slice_set w.bodies h back =
    set-set w.bodies h left back in
    let stands : (body_at (slice_set w.bodies h back) h).standing.view ≡ (body_at w.bodies h).standing.view =
    ap (λ (b : HostBody). b.standing.view) (get_or-set_same w.bodies h back nobody there) ∙ seen in
    subst (λ b. handled_by b w x u) (sym stamp)
    (inr (
      some,
      record {
        left = back;
        cut = cut;
        view = seen;
        is = failed
            ∙ ap (λ (bodies : List HostBody). stopped (record w { bodies = bodies }) h Memory 0) over
            ∙ ap (λ v. halted (with_body w h back) h v Memory 0) stands;
      },
    ))

-- a signal that is discarded, or handled
pub has_taken : (result : Result (Unit {0}) NoMemory) (w u : Whole) (x : Addressed) → is_discarded w x ≡ false
    → OnOk result (HasHandled w x u) → OnOk result (HasTaken w x u)
has_taken (Err fault) w u x kept handled = tt
has_taken (Ok done) w u x kept handled = subst (λ b. taken_if b w x u) (sym kept) handled

-- what a step sends is sent, and its links are closed where it stops its host
abbrev closing_after : Bool → Whole → Addressed → Step HostBody → ℕ → StopCause → ℕ → Whole
closing_after b w x t stamp cause lost =
    closing_if b (sending (telling w x t) x.to stamp t.effects.sends) x.to stamp x.signal.view cause lost

-- and it stands in the log of its host, with this stamp
abbrev logged_as : Whole → Addressed → Step HostBody → ℕ → Whole
logged_as v x t stamp =
    record v {
      stopped = slice_set v.stopped x.to (stops_by t.effects.marks);
      stamps = slice_set v.stamps x.to stamp;
      logs = with_step v.logs x.to (record { stamp = stamp; taken = x.signal; marks = t.effects.marks });
    }

logged_is : (b : Bool) (w : Whole) (x : Addressed) (t : Step HostBody) (stamp : ℕ) (cause : StopCause) (lost : ℕ)
    → logged_as (closing_after b w x t stamp cause lost) x t (next_stamp w.stamps x.to x.signal.stamp)
    ≡ logged (closing_after b w x t stamp cause lost) x t
logged_is true w x t stamp cause lost = refl
logged_is false w x t stamp cause lost = refl

-- the links are closed for the cause that the marks tell
closed_for : (b : Bool) (o : Option StopCause) (v u : Whole) (h stamp lost : ℕ) (view : View) (cause : StopCause)
    → is_some o ≡ b
    → IfSome o (λ c. c ≡ cause) → MatchOption o (u ≡ v) (λ c. u ≡ closing v h stamp view c lost)
    → u ≡ closing_if b v h stamp view cause lost
closed_for true (Some c) v u h stamp lost view cause stops is closed =
    closed ∙ ap (λ d. closing v h stamp view d lost) is
closed_for true None v u h stamp lost view cause stops is closed = absurd (true≢false (sym stops))
closed_for false (Some c) v u h stamp lost view cause stops is closed = absurd (true≢false stops)
closed_for false None v u h stamp lost view cause stops is closed = closed

-- so the step is made
pub has_entered : (w v u : Whole) (x : Addressed) (t : Step HostBody) (stamp lost : ℕ) (cause : Option StopCause)
    → stamp ≡ next_stamp w.stamps x.to x.signal.stamp → is_some cause ≡ stops_by t.effects.marks
    → IfSome cause (λ c. c ≡ cause_in t.effects.marks)
    → MatchOption cause (v ≡ sending (telling w x t) x.to stamp t.effects.sends)
    (λ c. v ≡ closing (sending (telling w x t) x.to stamp t.effects.sends) x.to stamp x.signal.view c lost)
    → u ≡ logged_as v x t stamp → u ≡ entered w lost x t
has_entered w v u x t stamp lost cause at stops is closed same =
    same
    ∙ ap (λ (a : Whole). logged_as a x t stamp)
    (closed_for (stops_by t.effects.marks) cause (sending (telling w x t) x.to stamp t.effects.sends) v x.to stamp lost
    x.signal.view
    (cause_in t.effects.marks) stops is closed)
    ∙ ap (λ n. logged_as (closing_after (stops_by t.effects.marks) w x t n (cause_in t.effects.marks) lost) x t n) at
    ∙ logged_is (stops_by t.effects.marks) w x t (next_stamp w.stamps x.to x.signal.stamp) (cause_in t.effects.marks)
    lost

-- what is told depends on the state alone
told_by_state : (h : ℕ) (t : Step HostBody) → told h (stay t.state) ≡ told h t
told_by_state zero t = refl
told_by_state (suc h) t = refl

replies_by_state : (h : ℕ) (t : Step HostBody) → replies_at h (stay t.state) ≡ replies_at h t
replies_by_state zero t = refl
replies_by_state (suc h) t = refl

-- the host is what the step leads to, and its replies are told
pub has_told : (w : Whole) (x : Addressed) (t : Step HostBody) (host : HostBody) (replies : List ApiReply)
    → host ≡ told x.to (stay t.state)
    → replies ≡ w.replies ++ replies_at x.to (stay t.state)
    → record w { bodies = slice_set w.bodies x.to host; replies = replies } ≡ telling w x t
has_told w x t host replies is told_all =
    ap (λ (s : HostBody). record w { bodies = slice_set w.bodies x.to s; replies = replies })
    (is ∙ told_by_state x.to t)
    ∙ ap (λ rs. record w { bodies = slice_set w.bodies x.to (told x.to t); replies = rs })
    (told_all ∙ ap (λ rs. w.replies ++ rs) (replies_by_state x.to t))

-- what its marks tell of a stop is why the host stops
pub stop_told : (s : HostBody) (x : Signal) (now : HostBody) (out : Effects) (cause : Option StopCause)
    → IsTaken (host_row s x) now nothing out → cause ≡ host_stop s x → stop_in out.marks ≡ cause
stop_told s x now out cause taken is =
    ap (λ (e : Effects). stop_in e.marks) taken.effects ∙ marks_tell_of_stops s x ∙ sym is

cause_told : (marks : List Mark) → IfSome (stop_in marks) (λ c. c ≡ cause_in marks)
cause_told [] = tt
cause_told (Stopped cause ∷ marks) = refl
cause_told (mark ∷ marks) = cause_told marks

-- The world where the step is logged.
pub enters_ok : (result : Result (Unit {0}) NoMemory) (w s v : Whole) (x : Addressed) (t : Step HostBody)
    (stamp lost : ℕ)
    (cause : Option StopCause) (b : Bool) (marks : List Mark) (logs : List HostLog)
    → stamp ≡ next_stamp w.stamps x.to x.signal.stamp → marks ≡ t.effects.marks → stop_in t.effects.marks ≡ cause
    → b ≡ is_some cause
    → s ≡ sending (telling w x t) x.to stamp t.effects.sends
    → MatchOption cause (v ≡ s) (λ c. v ≡ closing s x.to stamp x.signal.view c lost)
    → OnOk result (logs ≡ with_step v.logs x.to (record { stamp = stamp; taken = x.signal; marks = marks }))
    → OnOk result (record v {
      stopped = slice_set v.stopped x.to b;
      stamps = slice_set v.stamps x.to stamp;
      logs = logs;
    }
    ≡ entered w lost x t)
enters_ok (Err fault) w s v x t stamp lost cause b marks logs at same told named sent closed added = tt
enters_ok (Ok done) w s v x t stamp lost cause b marks logs at same told named sent closed added =
    let stops : is_some cause ≡ stops_by t.effects.marks =
    ap (λ (o : Option StopCause). is_some o) (sym told) ∙ sym (stops_by_cause t.effects.marks) in
    has_entered w v (record v {
      stopped = slice_set v.stopped x.to b;
      stamps = slice_set v.stamps x.to stamp;
      logs =
          logs;
    }) x t stamp
    lost cause at stops (subst (λ o. IfSome o (λ c. c ≡ cause_in t.effects.marks)) told (cause_told t.effects.marks))
    (subst (λ (a : Whole). MatchOption cause (v ≡ a) (λ c. v ≡ closing a x.to stamp x.signal.view c lost)) sent closed)
    (ap (λ ls. record v { stopped = slice_set v.stopped x.to b; stamps = slice_set v.stamps x.to stamp; logs = ls })
    added
    ∙ ap (λ f. record v {
      stopped = slice_set v.stopped x.to f;
      stamps = slice_set v.stamps x.to stamp;
      logs = with_step v.logs x.to (record { stamp = stamp; taken = x.signal; marks = marks });
    }) (named ∙ stops)
    ∙ ap (λ ms. record v {
      stopped = slice_set v.stopped x.to (stops_by t.effects.marks);
      stamps = slice_set v.stamps x.to stamp;
      logs = with_step v.logs x.to (record { stamp = stamp; taken = x.signal; marks = ms });
    }) same)
