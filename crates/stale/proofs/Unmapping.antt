-- An unmapping makes stale what is held of its page.
use Rattle.std.proofs.Common.{◌≡◌, ℕ, ◌<◌, ◌∷◌, true, length, Option, Some, None, refl, sym, subst}
use Rattle.std.specs.Prelude.{is_none}
use Rattle.pte.specs.Address.{Span}
use Rattle.walk.specs.Maps.{Maps, LiesIn}
use Rattle.spaces.specs.declared.places.Place.{Place}
use Rattle.spaces.specs.declared.places.Place.TheVariants.{Space, Kernel}
use Rattle.spaces.specs.Effects.{HangsBelow}
use Rattle.spaces.specs.Layout.{root_ppn}
use Rattle.tlb.specs.Mappings.{Mapping, IsMappedBy}
use Rattle.history.specs.Setup.{Setup}
use Rattle.history.specs.Turns.{History}
use Rattle.history.specs.declared.reply.Reply.TheVariants as reply
use Rattle.history.specs.Spaces.{asid_in, asid_of}
use Rattle.history.specs.Tables.{words_of}
use Rattle.history.specs.Harts.{entries_of}
use Rattle.history.specs.Due.{is_place, Lawful}
use Rattle.history.specs.Staleness.{HasAsid, Reaches}
use Rattle.laws.specs.Kept.{HavePages, IsSetup}
use Rattle.laws.proofs.Accepted.{space_is}
use Rattle.laws.proofs.Asids.{asids_differ}
use Rattle.laws.proofs.Changing.{unmap_removes}
use Rattle.stale.specs.Stale.{Stale, unmapping}

module _ (C : Setup) (setup : IsSetup C) (H : History) (hart : ℕ) (place : Place) (page : Span) (named ticket h : ℕ) (m : Mapping)
    (l : Lawful C (unmapping hart place page named ticket ∷ H)) (pages : HavePages (unmapping hart place page named ticket ∷ H)) where
  -- the spaces through which the page is reached
  there : (of : Option ℕ) (s : ℕ) → Reaches C (unmapping hart place page named ticket ∷ H) of s → s < length C.layout.homes
  there None s below = subst (λ n. s < n) setup.homes below
  there (Some a) s has = subst (λ n. s < n) setup.homes has.there

  hangs : (u : Place) → is_place C H u ≡ true → (of : Option ℕ) → of ≡ asid_in C H u → (s : ℕ) → Reaches C (unmapping hart place page named ticket ∷ H) of s → HangsBelow u s
  hangs Kernel is of e s reach = tt
  hangs (Space u) is of e s reach =
      let has : HasAsid C (unmapping hart place page named ticket ∷ H) s (asid_of C H u) = subst (λ (o : Option ℕ). Reaches C (unmapping hart place page named ticket ∷ H) o s) e reach in
      let live = space_is C H u is in
      asids_differ C setup H l.0 u s live.0 has.there live.1 has.kept (sym has.same)

  pub makes_stale : IsMappedBy (entries_of C H h) m → m.asid ≡ asid_in C H place → LiesIn page m.page → Stale C (unmapping hart place page named ticket ∷ H) h m
  makes_stale held of lies =
      let removes = unmap_removes C setup H l.0 pages.0 hart place page named (reply.Opened ticket) l.1 pages.1 refl in
      record {
        held = held;
        unmapped = λ now. let s = now.some.0 in
            let reach : Reaches C (unmapping hart place page named ticket ∷ H) m.asid s = now.some.1 in
            let maps : Maps C.layout.scheme (words_of C (unmapping hart place page named ticket ∷ H)) (root_ppn C.layout s) m.page m.ppn m.flags (is_none m.asid) =
            now.each s reach in
            let gone = ((removes.1 s m.page m.ppn m.flags (is_none m.asid) (there m.asid s reach)).0 maps).1 in
            gone (hangs place removes.0.1 m.asid of s reach, lies);
      }
