-- That a host that was cut off stays so, test by test.
use Rattle.std.proofs.Common.{◌≡◌, ℕ, zero, suc, ◌++◌, ◌||◌, Bool, true, false, List, [], ◌∷◌, refl}
use Rattle.std.specs.List.{list_any}
use Rattle.std.specs.Prelude.{Option, None, Some}
use Rattle.sig_core.specs.declared.member.HostId.{HostId}
use Rattle.sig_core.specs.declared.signal.Body.{Body}
use Rattle.sig_core.specs.declared.signal.Body.TheVariants.{Host}
use Rattle.sig_core.specs.declared.signal.Signal.{Signal}
use Rattle.sig_core.specs.declared.signal.host.HostSignal.TheVariants.{Kill, Cut, Closed}
use Rattle.sig_core.specs.declared.view.View.{View}
use Rattle.sig_core.specs.Step.{Step}
use Rattle.api_views.specs.Members.{same_member}
use Rattle.node_views.specs.Blocks.{parts_row, settled_at}
use Rattle.node_views.specs.Laws.{CutHostsStayCut}
use Rattle.node_views.specs.Row.{blocks_row, closed_if, counted_row, cut_if, entered, entering_if, headed_if}
use Rattle.node_views.specs.Row.{headed_row, host_row, host_table, is_barred, is_cut, is_excluded, is_one_of, kill_row}
use Rattle.node_views.specs.Row.{killed_after, passed_if, passed_row, settle, standing_at, taken_if, with_parts}
use Rattle.node_views.specs.WellFormed.{is_well_formed}
use Rattle.node_views.specs.declared.host_body.HostBody as hosts

-- one item more passes where one passed before
any_more : {A : Type 0} (p : A → Bool) (xs : List A) (x : A) → list_any p xs ≡ true → list_any p (xs ++ x ∷ []) ≡ true
any_more p [] x is = cc
any_more p (y ∷ xs) x is = by (p y) is (any_more p xs x)
  where
    by : (b : Bool) → (b || list_any p xs) ≡ true → (list_any p xs ≡ true → list_any p (xs ++ x ∷ []) ≡ true)
        → (b || list_any p (xs ++ x ∷ [])) ≡ true
    by true is more = refl
    by false is more = more is

module _ (host : HostId) where
  -- what a host has cut off stays so in this step of it
  abbrev Stays : hosts.HostBody → Step hosts.HostBody → Type 0
  Stays s t = is_cut s.standing host ≡ true → is_cut t.state.standing host ≡ true

  entered_cut : (s : hosts.HostBody) (view : View) → Stays s (entered s view)
  unfolding entered
  entered_cut s view was = was

  settle_cut : (t : Step hosts.HostBody) (o : Option View) → is_cut t.state.standing host ≡ true
      → is_cut (settle t o).state.standing host ≡ true
  settle_cut t None was = was
  settle_cut t (Some view) was = entered_cut t.state view was

  blocks_cut : (s : hosts.HostBody) (x : Signal) → Stays s (blocks_row s x)
  unfolding blocks_row
  blocks_cut s x was = settle_cut (with_parts s (parts_row s.parts x)) (settled_at s.parts x) was

  kill_cut : (s : hosts.HostBody) (after : ℕ) → Stays s (kill_row s after)
  kill_cut s zero was = was
  kill_cut s (suc after) was = was

  cut_cut : (s : hosts.HostBody) (first : HostId) (b : Bool) → Stays s (cut_if s first b)
  cut_cut s first true was = was
  cut_cut s first false was = any_more (is_one_of host) s.standing.cut first was

  closed_cut : (s : hosts.HostBody) (x : Signal) (b : Bool) → Stays s (closed_if s x b)
  closed_cut s x true was = was
  closed_cut s x false was = blocks_cut s x was

  table_cut : (s : hosts.HostBody) (x : Signal) (body : Body) → Stays s (host_table s x body)
  table_cut s x (Host (Kill after)) was = kill_cut s after was
  table_cut s x (Host (Cut node first)) was = cut_cut s first _ was
  table_cut s x (Host (Closed cause)) was = closed_cut s x (same_member s.standing.member x.member) was
  table_cut s x body was = blocks_cut s x was

  passed_by : (s : hosts.HostBody) (x : Signal) (b : Bool) → Stays s (passed_if s x b)
  passed_by s x true was = was
  passed_by s x false was = table_cut s x x.body was

  passed_cut : (s : hosts.HostBody) (x : Signal) → Stays s (passed_row s x)
  unfolding passed_row
  passed_cut s x was = passed_by s x (is_barred s x) was

  entering_cut : (s : hosts.HostBody) (x : Signal) (b : Bool) → Stays s (entering_if s x b)
  entering_cut s x true was = was
  entering_cut s x false was = passed_cut (entered s x.view).state x (entered_cut s x.view was)

  headed_by : (s : hosts.HostBody) (x : Signal) (b : Bool) → Stays s (headed_if s x b)
  headed_by s x true was = entering_cut s x (is_excluded s.standing x.view) was
  headed_by s x false was = passed_cut s x was

  headed_cut : (s : hosts.HostBody) (x : Signal) → Stays s (headed_row s x)
  unfolding headed_row
  headed_cut s x was = headed_by s x _ was

  counted_cut : (s : hosts.HostBody) (x : Signal) (left : Option ℕ) → Stays s (counted_row s x left)
  counted_cut s x None was = headed_cut s x was
  counted_cut s x (Some zero) was = was
  counted_cut s x (Some (suc zero)) was = was
  counted_cut s x (Some (suc (suc left))) was =
      headed_cut (standing_at s (killed_after s.standing (Some (suc left)))) x was

  taken_cut : (s : hosts.HostBody) (x : Signal) (b : Bool) → Stays s (taken_if s x b)
  taken_cut s x true was = counted_cut s x s.standing.left was
  taken_cut s x false was = was

  host_cut : (s : hosts.HostBody) (x : Signal) → Stays s (host_row s x)
  unfolding host_row
  host_cut s x was = taken_cut s x (is_well_formed s.standing.shape x) was

pub cut_hosts_stay_cut : CutHostsStayCut
cut_hosts_stay_cut s x host was = host_cut host s x was
