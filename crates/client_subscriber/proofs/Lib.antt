pub mod SubscriberLaws
