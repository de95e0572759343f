-- The signal that a host took last, behind a reference.
use Rattle.std.proofs.Common.{◌≡◌, Bor, refl, sym}
use Rattle.std.specs.Prelude.{Option, None, Some, IfNone, IfSome, MatchOption}
use Rattle.sig_core.specs.declared.signal.Signal.{Signal}

abbrev pub now_of : Option (Bor Signal) → Option Signal
now_of None = None
now_of (Some x) = Some x.now

pub now_is : (taken : Option (Bor Signal)) → MatchOption taken (now_of taken ≡ None) (λ x. now_of taken ≡ Some x.now)
now_is None = refl
now_is (Some x) = refl

pub now_same : (taken : Option (Bor Signal)) (last : Option Signal) → IfSome taken (λ x. last ≡ Some x.now)
    → IfNone taken (last ≡ None) → now_of taken ≡ last
now_same None last some none = sym none
now_same (Some x) last some none = sym some
