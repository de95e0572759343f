-- What becomes of a transaction, case by case.
use Rattle.std.proofs.Common.{◌≡◌, ◌⊎◌, Bool, true, false, inl, inr, refl, sym}
use Rattle.std.proofs.lemmas.Bool.{true≢false}
use Rattle.commit_laws.specs.Fates.{aborts, commits, fate_if}

-- who is known commits
pub known_commits : (known full forth lost trace : Bool) → known ≡ true → fate_if known full forth lost trace ≡ commits
known_commits true full forth lost trace is = refl
known_commits false full forth lost trace is = absurd (true≢false (sym is))

-- who has gone forth at a coordinator that is full does, and who is lost aborts
pub forth_commits : (known full forth lost trace : Bool) → full ≡ true → forth ≡ true
    → fate_if known full forth lost trace ≡ commits
forth_commits true full forth lost trace is goes = refl
forth_commits false true true lost trace is goes = refl
forth_commits false true false lost trace is goes = absurd (true≢false (sym goes))
forth_commits false false forth lost trace is goes = absurd (true≢false (sym is))

pub lost_aborts : (known full forth lost trace : Bool) → known ≡ false → full ≡ true → forth ≡ false → lost ≡ true
    → fate_if known full forth lost trace ≡ aborts
lost_aborts true full forth lost trace unknown is stays goes = absurd (true≢false unknown)
lost_aborts false true true lost trace unknown is stays goes = absurd (true≢false stays)
lost_aborts false true false true trace unknown is stays goes = refl
lost_aborts false true false false trace unknown is stays goes = absurd (true≢false (sym goes))
lost_aborts false false forth lost trace unknown is stays goes = absurd (true≢false (sym is))

-- of another coordinator, who has a trace commits, and who has none, and isn't known, aborts
pub trace_commits : (known full forth lost trace : Bool) → full ≡ false → trace ≡ true
    → fate_if known full forth lost trace ≡ commits
trace_commits true full forth lost trace is has = refl
trace_commits false true forth lost trace is has = absurd (true≢false is)
trace_commits false false forth lost true is has = refl
trace_commits false false forth lost false is has = absurd (true≢false (sym has))

pub none_aborts : (known full forth lost trace : Bool) → known ≡ false → full ≡ false → trace ≡ false
    → fate_if known full forth lost trace ≡ aborts
none_aborts true full forth lost trace unknown is none = absurd (true≢false unknown)
none_aborts false true forth lost trace unknown is none = absurd (true≢false is)
none_aborts false false forth lost true unknown is none = absurd (true≢false none)
none_aborts false false forth lost false unknown is none = refl

-- none does both
pub not_both : commits ≡ aborts → ⊥
not_both is = absurd cc

-- why one commits
pub commits_by : (known full forth lost trace : Bool) → fate_if known full forth lost trace ≡ commits
    → (known ≡ true) ⊎ ((forth ≡ true) ⊎ (trace ≡ true))
commits_by true full forth lost trace is = inl refl
commits_by false true true lost trace is = inr (inl refl)
commits_by false true false true trace is = absurd cc
commits_by false true false false trace is = absurd cc
commits_by false false forth lost true is = inr (inr refl)
commits_by false false forth lost false is = absurd cc

-- of another coordinator one commits or aborts
pub gone_either : (known full forth lost trace : Bool) → full ≡ false
    → (fate_if known full forth lost trace ≡ commits) ⊎ (fate_if known full forth lost trace ≡ aborts)
gone_either true full forth lost trace is = inl refl
gone_either false true forth lost trace is = absurd (true≢false is)
gone_either false false forth lost true is = inl refl
gone_either false false forth lost false is = inr refl
