-- Striking the calls on other tracers: the answers that are left and the tracer's part stay.
use mathlib.Core.Path.{◌≡◌, refl, sym, ap, ap₂, ◌∙◌, subst}
use mathlib.Core.Bool.{Bool, true, false, not, cond}
use mathlib.Core.List.{List, [], ◌∷◌}
use Prim.Native.Nat.{ℕ, ◌≤◌}
use lib.Dec.{T, eqb→eq}
use lib.ListN.{length}
use Rattle.whole.proofs.Cases.{neqb→ne}
use Rattle.rules.specs.declared.Shape.{Shape}
use Rattle.rules.specs.Answers.{Answer}
use Rattle.rules.specs.Field.{Kind, field_length, part}
use Rattle.rules.specs.Calls.{Operation, Lent, Reply, call, wind_reply, wind_after}
use Rattle.rules.proofs.FieldLaws.{call_length, call-other, reply-same, part-after-same}
use Rattle.ledger.specs.Lists.{Call, on_wind, on, State, Buffers, lend, unreported, Performed, perform, run, stays, strike, replies_left}

module _ (κ : Kind) (g : Shape) (b : Buffers) (s : ℕ) where
  -- two states that calls on tracer s cannot tell apart
  pub record Like (x y : State) : Type 0 where
    pub room₁ : field_length κ g ≤ length x.field
    pub room₂ : field_length κ g ≤ length y.field
    pub winds : x.wind ≡ y.wind
    pub parts : part κ g s x.field ≡ part κ g s y.field

  -- a call leaves a field that is long enough
  still : (t : ℕ) (op : Operation Lent) (field : List ℕ) → field_length κ g ≤ length field → field_length κ g ≤ length (call κ g t op field).field
  still t op field h = subst (λ n. field_length κ g ≤ n) (sym (call_length κ g t op field)) h

  -- a call on another tracer, in one of the two
  other : (c : Call) (x y : State) → T (not (stays s c)) → Like x y → Like (perform κ g b c x).state y
  unfolding perform stays
  other (on_wind c) x y n h = absurd n
  other (on t op) x y n h = record {
    room₁ = still t (lend b x.wind op) x.field h.room₁;
    room₂ = h.room₂;
    winds = h.winds;
    parts = call-other κ g t (lend b x.wind op) x.field s (neqb→ne t s n) ∙ h.parts;
  }

  -- a call that stays, in both
  pub record Alike (p q : Performed κ g b) : Type 0 where
    pub states : Like p.state q.state
    pub replies : p.reply ≡ q.reply

  on-s : (op : Operation Lent) (x y : State) → Like x y → Alike
      (record { reply = (call κ g s op x.field).reply; state = record { field = (call κ g s op x.field).field; wind = x.wind } })
      (record { reply = (call κ g s op y.field).reply; state = record { field = (call κ g s op y.field).field; wind = y.wind } })
  on-s op x y h = record {
    replies = reply-same κ g s op x.field y.field h.room₁ h.room₂ h.parts;
    states = record {
      room₁ = still s op x.field h.room₁;
      room₂ = still s op y.field h.room₂;
      winds = h.winds;
      parts = part-after-same κ g s op x.field y.field h.room₁ h.room₂ h.parts;
    };
  }

  kept : (c : Call) (x y : State) → T (stays s c) → Like x y → Alike (perform κ g b c x) (perform κ g b c y)
  unfolding perform stays
  kept (on_wind c) x y t h = record {
    replies = ap (λ w. unreported (wind_reply g c w)) h.winds;
    states = record { room₁ = h.room₁; room₂ = h.room₂; winds = ap (wind_after g c) h.winds; parts = h.parts };
  }
  kept (on t op) x y m h = subst (λ w. Alike (perform κ g b (on t op) x) (record { reply = (call κ g t (lend b w op) y.field).reply; state = record { field = (call κ g t (lend b w op) y.field).field; wind = y.wind } })) h.winds
      (subst (λ z. Alike
      (record { reply = (call κ g z (lend b x.wind op) x.field).reply; state = record { field = (call κ g z (lend b x.wind op) x.field).field; wind = x.wind } })
      (record { reply = (call κ g z (lend b x.wind op) y.field).reply; state = record { field = (call κ g z (lend b x.wind op) y.field).field; wind = y.wind } }))
      (sym (eqb→eq t s m)) (on-s (lend b x.wind op) x y h))

  pub record Struck (cs ks : List Call) (x y : State) (left : List (Answer Reply)) : Type 0 where
    pub ends : Like (run κ g b cs x).end (run κ g b ks y).end
    pub replies-left : (run κ g b ks y).replies ≡ left

  strike-one : (c : Call) (cs : List Call) (x y : State) → Like x y
      → ((x y : State) → Like x y → Struck cs (strike s cs) x y (replies_left s cs (run κ g b cs x).replies))
      → Struck (c ∷ cs) (strike s (c ∷ cs)) x y (replies_left s (c ∷ cs) (run κ g b (c ∷ cs) x).replies)
  unfolding run strike replies_left
  strike-one c cs x y h ih = go (stays s c) (λ t. kept c x y t h) (λ t. other c x y t h)
    where
      d : Performed κ g b
      d = perform κ g b c x

      go : (t : Bool) → (T t → Alike d (perform κ g b c y)) → (T (not t) → Like d.state y)
          → Struck (c ∷ cs) (cond t (c ∷ strike s cs) (strike s cs)) x y (cond t (d.reply ∷ replies_left s cs (run κ g b cs d.state).replies) (replies_left s cs (run κ g b cs d.state).replies))
      go true yes' no' = let k = ih d.state (perform κ g b c y).state (yes' tt).states in record { ends = k.ends; replies-left = ap₂ ◌∷◌ (sym (yes' tt).replies) k.replies-left }
      go false yes' no' = let k = ih d.state y (no' tt) in record { ends = k.ends; replies-left = k.replies-left }

  pub struck : (cs : List Call) (x y : State) → Like x y → Struck cs (strike s cs) x y (replies_left s cs (run κ g b cs x).replies)
  unfolding run strike replies_left
  struck [] x y h = record { ends = h; replies-left = refl }
  struck (c ∷ cs) x y h = strike-one c cs x y h (λ x y h. struck cs x y h)
