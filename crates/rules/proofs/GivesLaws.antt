-- What each call gives is one thing: the definitions that contracts cite hold of some answer and content (`some`), and of no two (`one`),
-- but for work after an accepted step, of which the surplus alone is given.
use mathlib.Core.Path.{◌≡◌, refl, sym, ap, ◌∙◌}
use mathlib.Core.List.{List}
use Prim.Native.Nat.{ℕ}
use lib.IntN.{ℤ}
use lib.ListN.{drop}
use Rattle.rules.specs.declared.Shape.{Shape}
use Rattle.rules.specs.Answers.{Answer, accepted, refused, mapped}
use Rattle.rules.specs.Field.{Kind, work_needed}
use Rattle.rules.specs.Calls.{WindCall, Operation, Lent, lent, step, Reply, Told, tell, clipped_mass, call, fresh_reply, fresh_field, fresh_wind, wind_reply, wind_after, report_after, WorkAfter, CallGives, StepGives, FreshGives, WindGives}
use Rattle.rules.specs.FieldFile.{read_reply, read_field, read_wind, write_reply, write_file, ReadGives, WriteGives}
use Rattle.rules.specs.Map.{map_reading, map_page, MapGives}

-- the answer is a
abbrev is : {A : Type 0} → Answer A → Answer A → Type 0
is a b = a ≡ b

-- both are x
both : {A : Type 0} {x y z : A} → y ≡ x → z ≡ x → y ≡ z
both p q = p ∙ sym q

same-work : (g : Shape) (a : Answer Reply) (work : List ℤ) → WorkAfter g a work work
same-work g (accepted r) work = (refl, refl)
same-work g (refused n) work = refl

surplus : (g : Shape) (a : Answer Reply) (work x y : List ℤ) → WorkAfter g a work x → WorkAfter g a work y → drop (work_needed g) x ≡ drop (work_needed g) y
surplus g (accepted r) work x y p q = both p.1 q.1
surplus g (refused n) work x y p q = ap (drop (work_needed g)) (both p q)

module _ (κ : Kind) (g : Shape) (s : ℕ) (field : List ℕ) where
  call-some : (op : Operation Lent) → CallGives κ g s op field (is (mapped (tell op) (call κ g s op field).reply)) (call κ g s op field).field
  call-some op = (refl, refl)

  call-one : (op : Operation Lent) (a b : Answer (Told op)) (x y : List ℕ) → CallGives κ g s op field (is a) x → CallGives κ g s op field (is b) y → (a ≡ b) × (x ≡ y)
  call-one op a b x y p q = (both p.0 q.0, both p.1 q.1)

  module _ (wind report work : List ℤ) where
    abbrev op : Operation Lent
    op = step (lent wind report work)

    step-some : StepGives κ g s field wind report work (is (clipped_mass (call κ g s op field).reply)) (call κ g s op field).field (report_after (call κ g s op field).reply report) work
    step-some = (refl, (refl, (refl, same-work g (call κ g s op field).reply work)))

    step-one : (a b : Answer ℕ) (x y : List ℕ) (r t w v : List ℤ) → StepGives κ g s field wind report work (is a) x r w → StepGives κ g s field wind report work (is b) y t v
        → (a ≡ b) × ((x ≡ y) × ((r ≡ t) × (drop (work_needed g) w ≡ drop (work_needed g) v)))
    step-one a b x y r t w v p q =
        (both p.0 q.0, (both p.1.0 q.1.0, (both p.1.1.0 q.1.1.0, surplus g (call κ g s op field).reply work w v p.1.1.1 q.1.1.1)))

  map-some : (page : List ℕ) → MapGives κ g s field page (is (map_reading κ g s field page)) (map_page κ g s field page)
  map-some page = (refl, refl)

  map-one : (page : List ℕ) (a b : Answer ℕ) (x y : List ℕ) → MapGives κ g s field page (is a) x → MapGives κ g s field page (is b) y → (a ≡ b) × (x ≡ y)
  map-one page a b x y p q = (both p.0 q.0, both p.1 q.1)

module _ (κ : Kind) (g : Shape) (field : List ℕ) (wind : List ℤ) where
  fresh-some : FreshGives κ g field wind (is (fresh_reply κ g field wind)) (fresh_field κ g field wind) (fresh_wind κ g field wind)
  fresh-some = (refl, (refl, refl))

  fresh-one : (a b : Answer (Unit {0})) (x y : List ℕ) (w v : List ℤ) → FreshGives κ g field wind (is a) x w → FreshGives κ g field wind (is b) y v → (a ≡ b) × ((x ≡ y) × (w ≡ v))
  fresh-one a b x y w v p q = (both p.0 q.0, (both p.1.0 q.1.0, both p.1.1 q.1.1))

  wind-some : (c : WindCall) → WindGives g c wind (is (wind_reply g c wind)) (wind_after g c wind)
  wind-some c = (refl, refl)

  wind-one : (c : WindCall) (a b : Answer (Unit {0})) (w v : List ℤ) → WindGives g c wind (is a) w → WindGives g c wind (is b) v → (a ≡ b) × (w ≡ v)
  wind-one c a b w v p q = (both p.0 q.0, both p.1 q.1)

  module _ (file : List ℕ) where
    read_some : ReadGives κ file field wind (is (read_reply κ file field wind)) (read_field κ file field wind) (read_wind κ file field wind)
    read_some = (refl, (refl, refl))

    read_one : (a b : Answer Shape) (x y : List ℕ) (w v : List ℤ) → ReadGives κ file field wind (is a) x w → ReadGives κ file field wind (is b) y v → (a ≡ b) × ((x ≡ y) × (w ≡ v))
    read_one a b x y w v p q = (both p.0 q.0, (both p.1.0 q.1.0, both p.1.1 q.1.1))

    write-some : WriteGives κ g field wind file (is (write_reply κ g field wind file)) (write_file κ g field wind file)
    write-some = (refl, refl)

    write-one : (a b : Answer ℕ) (x y : List ℕ) → WriteGives κ g field wind file (is a) x → WriteGives κ g field wind file (is b) y → (a ≡ b) × (x ≡ y)
    write-one a b x y p q = (both p.0 q.0, both p.1 q.1)
