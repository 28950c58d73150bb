-- On the links of all places, and on what a link hands over.
use Rattle.std.proofs.Common.{◌≡◌, ℕ, ◌+◌, false, map, None, Some, Option, option_to_list, List, [], ◌∷◌, ◌++◌, ◌∙◌, ap, sym, append_assoc, append-nil, zero-add}
use Rattle.std.specs.List.{range_with_len}
use Rattle.std.proofs.lemmas.List.FromFn.{map-range_with_len_more}
use Rattle.lock_messages.specs.declared.ids.Actor.{Actor}
use Rattle.lossy_link.specs.declared.parcels.Post.{Post}
use Rattle.lossy_link.specs.declared.passages.Mail.{Mail}
use Rattle.lossy_link.specs.declared.passages.Departure.{Departure}
use Rattle.lossy_link.specs.Weathers.{Climate, climate_at}
use Rattle.lossy_link.specs.Passages.{mails_of}
use Rattle.lossy_link.specs.ChannelLinks.{Channeled, actor_at, link_at, after_handing, HandsPart}

-- the links of the first places, and one behind them
pub one_link_more : (nodes n : ℕ) (w here : Climate) (actor : Actor) (links more : List Channeled) (link : Channeled)
    → links ≡ map (link_at nodes w) (range_with_len 0 n)
    → more ≡ links ++ link ∷ []
    → link ≡ record { actor = actor; climate = here; held = None; own = []; closed = false }
    → actor ≡ actor_at nodes n
    → here ≡ climate_at w n
    → more ≡ map (link_at nodes w) (range_with_len 0 (n + 1))
one_link_more nodes n w here actor links more link before pushed is whose weather =
    let step = map-range_with_len_more (link_at nodes w) 0 n n (zero-add n) in cc

-- the first mail was refused
pub refused_first : (link link' : Channeled) (d : Departure) (m : Mail) → d.first ≡ Some m → link' ≡ link → HandsPart link (mails_of d) link'
refused_first link link' d m is same =
    record {
      front = [];
      refused = m;
      back = option_to_list d.second ++ option_to_list d.late;
      all = ap (λ (first : Option Mail). (option_to_list first ++ option_to_list d.second) ++ option_to_list d.late) is;
      went = same ∙ ap (λ (own : List Post). record { actor = link.actor; climate = link.climate; held = link.held; own = own; closed = link.closed }) (sym (append-nil link.own));
    }

-- the second was refused, behind a first one or none
pub refused_second : (link here link' : Channeled) (d : Departure) (m : Mail)
    → here ≡ after_handing link (option_to_list d.first) → d.second ≡ Some m → link' ≡ here → HandsPart link (mails_of d) link'
refused_second link here link' d m before is same =
    record {
      front = option_to_list d.first;
      refused = m;
      back = option_to_list d.late;
      all = ap (λ (second : Option Mail). (option_to_list d.first ++ option_to_list second) ++ option_to_list d.late) is ∙ append_assoc (option_to_list d.first) (m ∷ []) (option_to_list d.late);
      went = same ∙ before;
    }
