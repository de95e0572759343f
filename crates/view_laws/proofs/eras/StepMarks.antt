-- What the marks of a step of a host tell: who decides goes on, and stands in the view that was marked last.
use Rattle.std.proofs.Common.{◌≡◌, ◌⊎◌, ◌||◌, ◌++◌, ℕ, zero, suc, Bool, true, false, nat_lt, List, [], ◌∷◌, refl, ap}
use Rattle.std.proofs.Common.{sym, subst, ◌∙◌, inl, inr}
use Rattle.std.specs.List.{list_any}
use Rattle.std.specs.Prelude.{not, Option, None, Some}
use Rattle.run_theory.specs.Lists.{Each}
use Rattle.sig_core.specs.declared.mark.Mark.{Mark}
use Rattle.sig_core.specs.declared.mark.Mark.TheVariants.{Installed}
use Rattle.sig_core.specs.declared.member.HostId.{HostId}
use Rattle.sig_core.specs.declared.outcome.StopCause.{StopCause}
use Rattle.sig_core.specs.declared.signal.Body.{Body}
use Rattle.sig_core.specs.declared.signal.Body.TheVariants.{Host}
use Rattle.sig_core.specs.declared.signal.Signal.{Signal}
use Rattle.sig_core.specs.declared.signal.host.HostSignal.TheVariants.{Closed, Cut, Kill}
use Rattle.sig_core.specs.declared.view.View.{View}
use Rattle.sig_core.specs.Step.{Step}
use Rattle.api_views.specs.Members.{same_member}
use Rattle.node_views.specs.Blocks.{parts_row}
use Rattle.node_views.specs.declared.host_body.HostBody as hosts
use Rattle.node_views.specs.Row.{blocks_row, closed_if, counted_row, cut_if, entered, entering_if, headed_if}
use Rattle.node_views.specs.Row.{headed_row, host_row, host_table, is_barred, is_cut, is_excluded, is_stop}
use Rattle.node_views.specs.Row.{killed_after, passed_if, passed_row, settle, standing_at, taken_if, with_parts}
use Rattle.node_views.specs.WellFormed.{is_first, is_well_formed}
use Rattle.world_core.specs.Entries.{installed_in}
use Rattle.world_views.specs.Machine.{own_stop, step_by, step_if}
use Rattle.world_views.proofs.StepEach.{step_words}
use Rattle.view_laws.proofs.eras.DecisionMarks.{DecidesNone, DecidesOnly, IsUndecided, decisions_go, decisions_install}
use Rattle.view_laws.proofs.eras.Parts.{coordinating, entered_bare, entered_has, has_coordinator, none_settled}
use Rattle.view_laws.proofs.eras.Parts.{host_undecided}

entered_marks : (s : hosts.HostBody) (view : View) → (entered s view).effects.marks ≡ []
unfolding entered
entered_marks s view = entered_bare s.parts view

entered_keeps : (s : hosts.HostBody) (view : View)
    → has_coordinator (entered s view).state.parts ≡ has_coordinator s.parts
unfolding entered
entered_keeps s view = entered_has s.parts view

entered_view : (s : hosts.HostBody) (view : View) → (entered s view).state.standing.view ≡ view
unfolding entered
entered_view s view = refl

-- a host without a coordinator decides nothing
pub step_none : (h : ℕ) (s : hosts.HostBody) (x : Signal) → has_coordinator s.parts ≡ false
    → DecidesNone (step_by h s x)
step_none h s x lacks =
    (step_words (λ body. Unit {0}) IsUndecided h s x (λ body is. tt) (host_undecided s.parts lacks)).1

-- One with a coordinator stands behind a step in the view that it marked last, and a step by which it stops decides
-- nothing.
pub record IsMarked (number : ℕ) (t : Step hosts.HostBody) : Type 0 where
  pub installs : installed_in t.effects.marks number ≡ t.state.standing.view.number
  pub decides : (list_any is_stop t.effects.marks ≡ false) ⊎ DecidesNone t

abbrev Has : hosts.HostBody → Type 0
Has s = has_coordinator s.parts ≡ true

abbrev Marks : hosts.HostBody → Step hosts.HostBody → Type 0
Marks s t = IsMarked s.standing.view.number t

blocks_mark : (s : hosts.HostBody) (x : Signal) → Has s → Marks s (blocks_row s x)
unfolding blocks_row
blocks_mark s x has =
    let t = with_parts s (parts_row s.parts x) in
    let all : DecidesOnly t = coordinating s.parts x has in
    subst (λ view. Marks s (settle t view)) (sym (none_settled s.parts x has))
    (record {
      installs = decisions_install t.effects.marks s.standing.view.number all;
      decides = inl (decisions_go t.effects.marks all);
    })

cut_marks : (s : hosts.HostBody) (first : HostId) (cut : Bool) → Marks s (cut_if s first cut)
cut_marks s first true = record { installs = refl; decides = inl refl }
cut_marks s first false = record { installs = refl; decides = inl refl }

closed_marks : (s : hosts.HostBody) (x : Signal) (own : Bool) → Has s → Marks s (closed_if s x own)
closed_marks s x true has = record { installs = refl; decides = inr (refl, tt) }
closed_marks s x false has = blocks_mark s x has

table_marks : (s : hosts.HostBody) (x : Signal) (body : Body) → Has s → Marks s (host_table s x body)
table_marks s x (Host (Kill zero)) has = record { installs = refl; decides = inr (refl, tt) }
table_marks s x (Host (Kill (suc left))) has = record { installs = refl; decides = inl refl }
table_marks s x (Host (Cut node first)) has = cut_marks s first (is_cut s.standing first || not (is_first first))
table_marks s x (Host (Closed cause)) has = closed_marks s x (same_member s.standing.member x.member) has
table_marks s x _ has = blocks_mark s x has

passed_if_marks : (s : hosts.HostBody) (x : Signal) (barred : Bool) → Has s → Marks s (passed_if s x barred)
passed_if_marks s x true has = record { installs = refl; decides = inl refl }
passed_if_marks s x false has = table_marks s x x.body has

passed_marks : (s : hosts.HostBody) (x : Signal) → Has s → Marks s (passed_row s x)
unfolding passed_row
passed_marks s x has = passed_if_marks s x (is_barred s x) has

entering_marks : (s : hosts.HostBody) (x : Signal) (excluded : Bool) → Has s → Marks s (entering_if s x excluded)
entering_marks s x true has = record { installs = refl; decides = inr (refl, tt) }
entering_marks s x false has = record {
  installs =
      ap (λ marks. installed_in (marks ++ later) x.view.number) (entered_marks s x.view)
      ∙ ap (λ (v : View). installed_in later v.number) (sym (entered_view s x.view)) ∙ behind.installs;
  decides = by behind.decides;
}
  where
    inside : hosts.HostBody
    inside = (entered s x.view).state

    behind : Marks inside (passed_row inside x)
    behind = passed_marks inside x (entered_keeps s x.view ∙ has)

    later : List Mark
    later = (passed_row inside x).effects.marks

    all : List Mark
    all = (entered s x.view).effects.marks ++ later

    same : all ≡ later
    same = ap (λ marks. marks ++ later) (entered_marks s x.view)

    by : (list_any is_stop later ≡ false) ⊎ Each IsUndecided later
        → (list_any is_stop (Installed x.view ∷ all) ≡ false) ⊎ Each IsUndecided (Installed x.view ∷ all)
    by (inl goes) = inl (ap (list_any is_stop) same ∙ goes)
    by (inr none) = inr (refl, subst (Each IsUndecided) (sym same) none)

headed_if_marks : (s : hosts.HostBody) (x : Signal) (newer : Bool) → Has s → Marks s (headed_if s x newer)
headed_if_marks s x true has = entering_marks s x (is_excluded s.standing x.view) has
headed_if_marks s x false has = passed_marks s x has

headed_marks : (s : hosts.HostBody) (x : Signal) → Has s → Marks s (headed_row s x)
unfolding headed_row
headed_marks s x has = headed_if_marks s x (nat_lt s.standing.view.number x.view.number) has

counted_marks : (s : hosts.HostBody) (x : Signal) (left : Option ℕ) → Has s → Marks s (counted_row s x left)
counted_marks s x None has = headed_marks s x has
counted_marks s x (Some zero) has = record { installs = refl; decides = inr (refl, tt) }
counted_marks s x (Some (suc zero)) has = record { installs = refl; decides = inr (refl, tt) }
counted_marks s x (Some (suc (suc left))) has =
    headed_marks (standing_at s (killed_after s.standing (Some (suc left)))) x has

taken_marks : (s : hosts.HostBody) (x : Signal) (sound : Bool) → Has s → Marks s (taken_if s x sound)
taken_marks s x true has =
    let marked = counted_marks s x s.standing.left has in
    record { installs = marked.installs; decides = marked.decides }
taken_marks s x false has = record { installs = refl; decides = inl refl }

row_marks : (s : hosts.HostBody) (x : Signal) → Has s → Marks s (host_row s x)
unfolding host_row
row_marks s x has = taken_marks s x (is_well_formed s.standing.shape x) has

by_marks : (s : hosts.HostBody) (x : Signal) (cause : Option StopCause) → Has s → Marks s (step_if s x cause)
by_marks s x (Some cause) has = record { installs = refl; decides = inr (refl, tt) }
by_marks s x None has = row_marks s x has

pub step_marks : (h : ℕ) (s : hosts.HostBody) (x : Signal) → has_coordinator s.parts ≡ true
    → IsMarked s.standing.view.number (step_by h s x)
step_marks h s x has = by_marks s x (own_stop h x) has
