-- Where in a row the event of an act stands, by the numbers of acts that its events stand for.
use Rattle.std.proofs.Common.{◌≡◌, ℕ, zero, suc, ◌+◌, ◌-◌, ◌<◌, ◌≤◌, List, [], ◌∷◌, ◌++◌, length, map, take, slice_get, get_or, Option, Some, None}
use Rattle.std.proofs.Common.{refl, sym, ap, subst, ◌∙◌, arith, length-append}
use Rattle.std.specs.Prelude.{SomeIff, option_map}
use Rattle.std.proofs.lemmas.List.{take_more, map-append}
use Rattle.std.proofs.lemmas.Option.{slice_get_within, slice_get_read, slice_get-map, slice_get-get_or, get_or_from_slice_get, none-some}
use Rattle.event_logger.specs.Sequential.Event.{EventValue, event_of, acts_of, count_of, IsEvent}
use Rattle.event_logger.specs.Sequential.Misses.{misses_after, parts_at, parts_of}
use Rattle.event_logger.specs.declared.sequential.kind.Kind.{Kind}
use Rattle.event_logger.specs.declared.sequential.kind.Kind.TheVariants as kind
use Rattle.event_logger.proofs.SequentialLaws.Misses.{parts_length, expand_push}
use Rattle.crash_free.specs.Runs.{Passed, History, history}
use Rattle.audit.specs.Rows.{row, event_at, events_from, cons_some, expand}
use Rattle.audit.specs.Counts.{ends_from, IsPlace}

-- there are as many numbers as events
pub ends_length : (k : ℕ) (events : List EventValue) → length (ends_from k events) ≡ length events
ends_length k [] = refl
ends_length k (e ∷ events) = ap suc (ends_length (k + count_of e) events)

-- none is below that before the first
ends_high : (k : ℕ) (events : List EventValue) (i : ℕ) → i < length (ends_from k events) → k ≤ get_or (ends_from k events) i 0
ends_high k [] i low = absurd (omega (arith, low))
ends_high k (e ∷ events) zero low = omega arith
ends_high k (e ∷ events) (suc i) low =
    let more = ends_high (k + count_of e) events i (omega (arith, low)) in
    omega (arith, more)

-- none is below one before it
pub ends_rise : (k : ℕ) (events : List EventValue) (i j : ℕ) → i ≤ j → j < length (ends_from k events)
    → get_or (ends_from k events) i 0 ≤ get_or (ends_from k events) j 0
ends_rise k [] i j le low = absurd (omega (arith, low))
ends_rise k (e ∷ events) zero zero le low = omega arith
ends_rise k (e ∷ events) zero (suc j) le low = ends_high (k + count_of e) events j (omega (arith, low))
ends_rise k (e ∷ events) (suc i) zero le low = absurd (omega (arith, le))
ends_rise k (e ∷ events) (suc i) (suc j) le low = ends_rise (k + count_of e) events i j (omega (arith, le)) (omega (arith, low))

-- the first of some events stands for so many acts, and the others for the rest
expand_length : (x : EventValue) (events : List EventValue) → length (expand (x ∷ events)) ≡ count_of x + length (expand events)
expand_length x events = length-append (parts_of x) (expand events) ∙ ap (λ n. n + length (expand events)) (parts_length x)

-- one event more
ends_push : (k : ℕ) (events : List EventValue) (e : EventValue)
    → ends_from k (events ++ e ∷ []) ≡ ends_from k events ++ (k + length (expand events) + count_of e) ∷ []
ends_push k [] e = (let z : k + count_of e ≡ k + 0 + count_of e = omega arith in ap (λ n. n ∷ []) z)
ends_push k (x ∷ events) e =
    ap (λ z. (k + count_of x) ∷ z) (ends_push (k + count_of x) events e
    ∙ (let sum = expand_length x events in
    let z : k + count_of x + length (expand events) + count_of e ≡ k + length (expand (x ∷ events)) + count_of e = omega (arith, sum) in
    ap (λ n. ends_from (k + count_of x) events ++ n ∷ []) z))

-- the last is as many as they all stand for
pub last_end : (k : ℕ) (events : List EventValue) (end : ℕ) → slice_get (ends_from k events) (length (ends_from k events) - 1) ≡ Some end
    → end ≡ k + length (expand events)
last_end k [] end at = absurd cc
last_end k (x ∷ []) end at =
    let same : k + count_of x ≡ end = cc in
    let long = expand_length x [] in
    omega (arith, same, long)
last_end k (x ∷ (y ∷ events)) end at =
    let rest = last_end (k + count_of x) (y ∷ events) end (let z : length (ends_from k (x ∷ (y ∷ events))) - 1 ≡ suc (length (ends_from (k + count_of x) (y ∷ events)) - 1) = omega arith in
    ap (slice_get (ends_from k (x ∷ (y ∷ events)))) (sym z) ∙ at) in
    let long = expand_length x (y ∷ events) in
    omega (arith, rest, long)

-- without a last they stand for none
pub no_end : (events : List EventValue) → slice_get (ends_from 0 events) (length (ends_from 0 events) - 1) ≡ None → 0 ≡ length (expand events)
no_end [] at = refl
no_end (x ∷ events) at =
    absurd (none-some _ (sym at ∙ slice_get-get_or (ends_from 0 (x ∷ events)) (length (ends_from 0 (x ∷ events)) - 1) 0 (omega arith)))

-- a number is that of the event before and how many acts its event stands for
ends_step : (k : ℕ) (events : List EventValue) (i : ℕ) (e : EventValue) → slice_get events (suc i) ≡ Some e
    → get_or (ends_from k events) (suc i) 0 ≡ get_or (ends_from k events) i 0 + count_of e
ends_step k [] i e there = absurd cc
ends_step k (x ∷ []) zero e there = absurd cc
ends_step k (x ∷ []) (suc i) e there = absurd cc
ends_step k (x ∷ (y ∷ events)) zero e there = (let same : y ≡ e = cc in ap (λ z. k + count_of x + count_of z) same)
ends_step k (x ∷ (y ∷ events)) (suc i) e there = ends_step (k + count_of x) (y ∷ events) i e there

-- it is after a number that is just so many
pub place_after : (events : List EventValue) (done i : ℕ) → i < length (ends_from 0 events) → get_or (ends_from 0 events) i 0 ≡ done
    → IsPlace events done (i + 1)
place_after events done i low is = record {
  before = λ h less there.
      let risen = ends_rise 0 events h i (omega (arith, less)) low in
      omega (arith, risen, is);
  within = λ e there some.
      let next : i + 1 ≡ suc i = omega arith in
      let step = ends_step 0 events i e (ap (slice_get events) (sym next) ∙ there) in
      let more : done < get_or (ends_from 0 events) (suc i) 0 = omega (arith, step, is, some) in
      subst (λ n. done < get_or (ends_from 0 events) n 0) (sym next) more;
}

-- or where a search for so many ends without it
pub place_missed : (events : List EventValue) (done i : ℕ) → ((h : ℕ) → h < i → get_or (ends_from 0 events) h 0 < done)
    → ((h : ℕ) → i ≤ h → h < length (ends_from 0 events) → done < get_or (ends_from 0 events) h 0) → IsPlace events done i
place_missed events done i below above = record {
  before = λ h less there. (let b = below h less in omega (arith, b));
  within = λ e there some.
      above i (omega arith) (let low = slice_get_within events i e there in let long = ends_length 0 events in omega (arith, low, long));
}

-- what is at a place of the first of two lists
at_first : {A : Type 0} (xs ys : List A) (i : ℕ) → i < length xs → slice_get (xs ++ ys) i ≡ slice_get xs i
at_first [] ys i low = absurd (omega (arith, low))
at_first (x ∷ xs) ys zero low = refl
at_first (x ∷ xs) ys (suc i) low = at_first xs ys i (omega (arith, low))

-- and of the second
at_second : {A : Type 0} (xs ys : List A) (i j : ℕ) → i ≡ length xs + j → slice_get (xs ++ ys) i ≡ slice_get ys j
at_second [] ys i j is = ap (slice_get ys) (omega (arith, is))
at_second (x ∷ xs) ys zero j is = absurd (omega (arith, is))
at_second (x ∷ xs) ys (suc i) j is = at_second xs ys i j (omega (arith, is))

-- the event of an act of those that an event stands for, after which this event has so many
pub record IsFound (k : ℕ) (events : List EventValue) (done : ℕ) (e : EventValue) (end : ℕ) : Type 0 where
  pub later : end - done - 1 < count_of e
  pub there : slice_get (expand events) (done - k) ≡ slice_get (parts_of e) (count_of e - 1 - (end - done - 1))

-- it is a part of the event at the place
found : (k : ℕ) (events : List EventValue) (done i : ℕ) (e : EventValue) → k ≤ done → slice_get events i ≡ Some e
    → ((h : ℕ) → h < i → get_or (ends_from k events) h 0 ≤ done) → done < get_or (ends_from k events) i 0
    → IsFound k events done e (get_or (ends_from k events) i 0)
found k [] done i e le there before within = absurd cc
found k (x ∷ events) done zero e le there before within =
    let same : x ≡ e = cc in
    let long = parts_length x in
    subst (λ z. IsFound k (x ∷ events) done z (k + count_of x)) same (record {
      later = omega (arith, le, within);
      there = at_first (parts_of x) (expand events) (done - k) (omega (arith, le, within, long))
          ∙ ap (slice_get (parts_of x)) (omega (arith, le, within));
    })
found k (x ∷ events) done (suc i) e le there before within =
    let first : k + count_of x ≤ done = before 0 (omega arith) in
    let rest =
    found (k + count_of x) events done i e first there (λ h less. before (suc h) (omega (arith, less))) within in
    let long = parts_length x in
    record {
      later = rest.later;
      there = at_second (parts_of x) (expand events) (done - k) (done - (k + count_of x)) (omega (arith, first, long)) ∙ rest.there;
    }

-- so it is at the place of a row
pub found_at : (events : List EventValue) (done place : ℕ) (e : EventValue) → IsPlace events done place → slice_get events place ≡ Some e → 1 ≤ count_of e
    → IsFound 0 events done e (get_or (ends_from 0 events) place 0)
found_at events done place e is there some =
    let low = slice_get_within events place e there in
    found 0 events done place e (omega arith) there (λ h less. is.before h less (omega (arith, less, low))) (is.within e there some)

-- past all events there is none
past_all : (k : ℕ) (events : List EventValue) (done : ℕ) → k ≤ done → ((h : ℕ) → h < length events → get_or (ends_from k events) h 0 ≤ done)
    → slice_get (expand events) (done - k) ≡ None
past_all k [] done le before = refl
past_all k (x ∷ events) done le before =
    let first : k + count_of x ≤ done = before 0 (omega arith) in
    let long = parts_length x in
    at_second (parts_of x) (expand events) (done - k) (done - (k + count_of x)) (omega (arith, first, long))
    ∙ past_all (k + count_of x) events done first (λ h less. before (suc h) (omega (arith, less)))

-- so it is of a row
pub none_at : (events : List EventValue) (done place : ℕ) → IsPlace events done place → length events ≤ place → slice_get (expand events) done ≡ None
none_at events done place is past =
    (let all : done ≡ done - 0 = omega arith in ap (slice_get (expand events)) all)
    ∙ past_all 0 events done (omega arith) (λ h less. is.before h (omega (arith, less, past)) less)

-- What is found at the place: of its event, which stands for so many acts, that many come later.
pub record IsHere (events : List EventValue) (done : ℕ) (e : EventValue) (end count : ℕ) : Type 0 where
  pub within : done < end
  pub later : end - done - 1 < count
  pub there : slice_get (parts_of e) (count - 1 - (end - done - 1)) ≡ slice_get (expand events) done

-- it is the event of the act
found_here : (events : List EventValue) (done place end count : ℕ) (e : EventValue) → IsPlace events done place → slice_get events place ≡ Some e
    → count ≡ count_of e → 1 ≤ count → end ≡ get_or (ends_from 0 events) place 0 → IsHere events done e end count
found_here events done place end count e is there same some at =
    let f = found_at events done place e is there (omega (arith, same, some)) in
    let later = f.later in
    let within = is.within e there (omega (arith, same, some)) in
    let all : done - 0 ≡ done = omega arith in
    record {
      within = omega (arith, within, at);
      later = omega (arith, later, at, same);
      there = (let k : count - 1 - (end - done - 1) ≡ count_of e - 1 - (get_or (ends_from 0 events) place 0 - done - 1) = omega (arith, same, at) in
          ap (slice_get (parts_of e)) k) ∙ sym f.there ∙ ap (slice_get (expand events)) all;
    }

-- the event of one act of those that an event of this kind stands for, after which so many come
abbrev pub part_in : EventValue → ℕ → Kind → EventValue
part_in e later kind.Reception = e
part_in e later kind.Hit = e
part_in e later kind.Miss = e
part_in e later kind.Misses = event_of kind.Miss 0 0 (e.receiver_clock - later)

-- of so many misses
nth_miss : (k n j : ℕ) → j < n → slice_get (misses_after k n) j ≡ Some (event_of kind.Miss 0 0 (k + j + 1))
nth_miss k zero j low = absurd (omega (arith, low))
nth_miss k (suc n) zero low = (let z : k + 1 ≡ k + 0 + 1 = omega arith in ap (λ c. Some (event_of kind.Miss 0 0 c)) z)
nth_miss k (suc n) (suc j) low =
    nth_miss (k + 1) n j (omega (arith, low)) ∙ (let z : k + 1 + j + 1 ≡ k + suc j + 1 = omega arith in ap (λ c. Some (event_of kind.Miss 0 0 c)) z)

-- the event of the act after which so many come
nth_part : (e : EventValue) (later : ℕ) → later < count_of e → count_of e ≤ e.receiver_clock
    → slice_get (parts_of e) (count_of e - 1 - later) ≡ Some (part_in e later e.kind)
nth_part e later low high = go e.kind low high
  where
    one : later < 1 → slice_get (e ∷ []) (1 - 1 - later) ≡ Some e
    one l = (let z : 1 - 1 - later ≡ 0 = omega arith in ap (slice_get (e ∷ [])) z)

    go : (k : Kind) → later < acts_of k e.sender_clock → acts_of k e.sender_clock ≤ e.receiver_clock
        → slice_get (parts_at e k) (acts_of k e.sender_clock - 1 - later) ≡ Some (part_in e later k)
    go kind.Reception l h = one l
    go kind.Hit l h = one l
    go kind.Miss l h = one l
    go kind.Misses l h =
        let at : e.receiver_clock - e.sender_clock + (e.sender_clock - 1 - later) + 1 ≡ e.receiver_clock - later = omega (arith, l, h) in
        nth_miss (e.receiver_clock - e.sender_clock) e.sender_clock (e.sender_clock - 1 - later) (omega (arith, l))
        ∙ ap (λ c. Some (event_of kind.Miss 0 0 c)) at

-- so it is where the event and its number were read
pub found_read : (events : List EventValue) (ends : List ℕ) (done place end count : ℕ) (e : EventValue) → ends ≡ ends_from 0 events → IsPlace events done place
    → place < length events → e ≡ get_or events place e → end ≡ get_or ends place end → count ≡ count_of e → 1 ≤ count → IsHere events done e end count
found_read events ends done place end count e whole is low at ended same some =
    let long = ends_length 0 events in
    let wide = ap length whole in
    let there = slice_get_read ends (length ends) place end refl (omega (arith, low, long, wide)) ended in
    found_here events done place end count e is (slice_get_read events (length events) place e refl low at) same some
    (sym (get_or_from_slice_get ends place end 0 there) ∙ ap (λ xs. get_or xs place 0) whole)

-- the event of one of a run of misses is one
pub run_part : (e : EventValue) (later count clock : ℕ) (result : Option EventValue) → e.kind ≡ kind.Misses → IsEvent e → clock ≡ e.receiver_clock
    → count ≡ count_of e → later < count → SomeIff result (IsEvent (event_of kind.Miss 0 0 (clock - later))) (event_of kind.Miss 0 0 (clock - later))
    → result ≡ slice_get (parts_of e) (count - 1 - later)
run_part e later count clock result run is at as_many low made =
    is_some result made ∙ ap (λ c. Some (event_of kind.Miss 0 0 (c - later))) at ∙ sym (ap (λ k. Some (part_in e later k)) run)
    ∙ sym (nth_part e later (omega (arith, as_many, low)) is.acts) ∙ ap (λ n. slice_get (parts_of e) (n - 1 - later)) (sym as_many)
  where
    miss : IsEvent (event_of kind.Miss 0 0 (clock - later))
    miss =
        let most = is.clock.greatest in
        let high = is.acts in
        record {
          message = (refl, refl);
          clock = record { least = omega (arith, as_many, low, high, at); greatest = omega (arith, most, at) };
          acts = omega (arith, as_many, low, high, at);
        }

    is_some : (result : Option EventValue) → SomeIff result (IsEvent (event_of kind.Miss 0 0 (clock - later))) (event_of kind.Miss 0 0 (clock - later))
        → result ≡ Some (event_of kind.Miss 0 0 (clock - later))
    is_some None made = absurd (made miss)
    is_some (Some x) made = ap Some made.1

-- ---- a row that a run may have

-- each event is of one act
pub events_few : (k : ℕ) (h : History) → length (events_from k h) ≤ length h
events_few k [] = omega arith
events_few k (x ∷ h) = go (event_at (k + 1) x.0 x.1) (events_few (k + 1) h)
  where
    go : (o : Option EventValue) → length (events_from (k + 1) h) ≤ length h → length (cons_some o (events_from (k + 1) h)) ≤ suc (length h)
    go None few = omega (arith, few)
    go (Some e) few = omega (arith, few)

-- so a rank's row has no more than it made acts
pub row_few : (C : List Passed) (r : ℕ) → length (row C r) ≤ length (history C r)
row_few C r = events_few 0 (history C r)

-- the numbers of some events, after the next of them
pub counted_more : (events : List EventValue) (i count : ℕ) (d : EventValue) → i < length events → count ≡ count_of (get_or events i d)
    → (ends_from 0 (take (i + 1) events) ≡ ends_from 0 (take i events) ++ (length (expand (take i events)) + count) ∷ [])
    × (length (expand (take (i + 1) events)) ≡ length (expand (take i events)) + count)
counted_more events i count d low is =
    let e : EventValue = get_or events i d in
    let sum : 0 + length (expand (take i events)) + count_of e ≡ length (expand (take i events)) + count = omega (arith, is) in (
      ap (ends_from 0) (take_more events i d low) ∙ ends_push 0 (take i events) e ∙ ap (λ n. ends_from 0 (take i events) ++ n ∷ []) sum,
      ap (λ es. length (expand es)) (take_more events i d low) ∙ ap length (expand_push (take i events) e)
          ∙ length-append (expand (take i events)) (parts_of e) ∙ ap (λ n. length (expand (take i events)) + n) (parts_length e ∙ sym is),
    )

-- some of the events stand for no more acts than all
take_few : (events : List EventValue) (i : ℕ) → length (expand (take i events)) ≤ length (expand events)
take_few events zero = omega arith
take_few [] (suc i) = omega arith
take_few (x ∷ events) (suc i) =
    let few = take_few events i in
    let one = length-append (parts_of x) (expand (take i events)) in
    let all = length-append (parts_of x) (expand events) in
    omega (arith, few, one, all)

-- where some events stand for too many acts, so do all
pub too_many : (events : List EventValue) (i count most : ℕ) (d : EventValue) → i < length events → count ≡ count_of (get_or events i d)
    → most < length (expand (take i events)) + count → most < length (expand events)
too_many events i count most d low is more =
    let few = take_few events (i + 1) in
    let sum = (counted_more events i count d low is).1 in
    omega (arith, few, sum, more)

-- ---- the rows of an outcome

-- the next of some rows
row_at : {A : Type 0} (f : A → List EventValue) (items : List A) (rows : List (List EventValue)) (i : ℕ) (x : A) → map f items ≡ rows → i < length items
    → x ≡ get_or items i x → slice_get rows i ≡ Some (f x)
row_at f items rows i x all low is =
    ap (λ ls. slice_get ls i) (sym all) ∙ slice_get-map f items i ∙ ap (option_map f) (slice_get_read items (length items) i x refl low is)

-- the numbers of some rows, and of the next of them
pub counted_on : {A : Type 0} (f : A → List EventValue) (xs : List A) (rows : List (List EventValue)) (i : ℕ) (x : A) (counts : List (List ℕ)) (ends : List ℕ)
    → map f xs ≡ rows → i < length xs → x ≡ get_or xs i x → counts ≡ map (ends_from 0) (take i rows) → ends ≡ ends_from 0 (f x)
    → counts ++ ends ∷ [] ≡ map (ends_from 0) (take (i + 1) rows)
counted_on f items rows i x counts ends all low is before one =
    let at = row_at f items rows i x all low is in
    ap (λ cs. cs ++ ends ∷ []) before ∙ ap (λ es. map (ends_from 0) (take i rows) ++ es ∷ []) (one ∙ sym (ap (ends_from 0)
    (get_or_from_slice_get rows i (f x) [] at)))
    ∙ sym (map-append (ends_from 0) (take i rows) (get_or rows i [] ∷ []))
    ∙ sym (ap (map (ends_from 0)) (take_more rows i [] (slice_get_within rows i (f x) at)))
